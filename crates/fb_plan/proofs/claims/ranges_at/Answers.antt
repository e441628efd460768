use Rattle.std.proofs.Common.{◌∙◌, sym, ap, arith}
use Rattle.fb_plan.proofs.Gathering.{left_list, right_list}
use Rattle.fb_plan.proofs.claims.ranges_at.Goals as goal

pub returns-then-node-units : goal.returns-then-node-units
returns-then-node-units c =
    c.as_slice.ensures.value ∙ ap (λ u. u.items) c.index-units-node.is
    ∙ sym (left_list (λ u. u.items) (λ join. join.seam.items) c.args.units.now c.args.fusions.now c.args.node c.index-units-node.result c.if-node-units.true)

pub returns-else-node-units : goal.returns-else-node-units
returns-else-node-units c =
    c.as_slice-else-node-units.ensures.value
    ∙ sym (right_list (λ u. u.items) (λ join. join.seam.items) c.args.units.now c.args.fusions.now c.args.node c.index-fusions-node.result c.if-node-units.false (omega arith))
