use Rattle.std.proofs.Common.{◌≡◌, Some, suc, sym, ◌∙◌}
use Rattle.fb_blossoms.specs.InternalForest.{parent_at}
use Rattle.fb_blossoms.proofs.Climbs.{climb_more, climb_on}
use Rattle.fb_blossoms.proofs.forest.child_over.Goals as goal

pub loop-parent-preserved : goal.loop-parent-preserved
loop-parent-preserved c =
    let slots = c.args.nodes.now.slots in
    let up : parent_at slots c.loop-parent.child ≡ Some c.in-Some.parent = sym c.parent_of.ensures ∙ c.in-Some.is in
    let k = c.loop-parent.invariant.0.0 in
    let j = c.loop-parent.invariant.1.0 in (
      (suc k, climb_more slots k _ _ _ c.loop-parent.invariant.0.1 up),
      climb_on slots j _ _ _ up c.if-parent-node.false c.loop-parent.invariant.1.1,
    )
