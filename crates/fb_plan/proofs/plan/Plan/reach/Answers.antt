use Rattle.std.proofs.Common.{◌<◌, length, refl, subst, sym, arith}
use Rattle.std.proofs.lemmas.List.{get_or_read_under}
use Rattle.fb_plan.specs.Plans.{node_count}
use Rattle.fb_plan.specs.Reaches.{IsReach}
use Rattle.fb_plan.proofs.plan.Plan.reach.Goals as goal

pub returns : goal.returns
returns c =
    let node = subst (λ t. c.args.node < node_count t) (sym c.self.view_is) c.requires in
    subst (λ t. IsReach t.owners c.args.node c.index.result.now) c.self.view_is
    (subst (IsReach _ c.args.node)
    (sym (get_or_read_under c.self.inside.reaches.items c.args.node (length c.self.inside.reaches.items) c.index.result.now (record { first = 0; end = 0 })
    c.index.ensures (omega (arith, node, c.self.invariant.reach_count)) refl))
    (c.self.invariant.each_reach c.args.node node))
