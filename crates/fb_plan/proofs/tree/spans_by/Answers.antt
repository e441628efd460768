use Rattle.std.proofs.Common.{◌∙◌, arith}
use Rattle.fb_plan.specs.InternalLayout.{tree_of}
use Rattle.fb_plan.proofs.Tables.{first_placed}
use Rattle.fb_plan.proofs.tree.spans_by.Goals as goal

pub loop-i-init : goal.loop-i-init
loop-i-init c = (
  omega arith,
  first_placed (tree_of c.args.units c.args.joins.now) c.requires.tree c.args.sizes.now c.in_ok-spans.spans.items
      (c.in_ok-spans.ensures.count ∙ c.requires.count) c.requires.each (λ n node. c.in_ok-spans.ensures.each n (omega (arith, node, c.requires.count))),
)
