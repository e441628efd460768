use Rattle.std.proofs.Common.{◌≡◌, Some, suc, sym, ◌∙◌}
use Rattle.fb_blossoms.specs.InternalForest.{parent_at}
use Rattle.fb_blossoms.proofs.Climbs.{climb_more, kept_parent}
use Rattle.fb_blossoms.proofs.forest.top_of.Goals as goal

pub loop-parent-preserved : goal.loop-parent-preserved
loop-parent-preserved c =
    let slots = c.args.nodes.now.slots in
    let up : parent_at slots c.loop-parent.top ≡ Some c.in-Some.parent = sym c.parent_of.ensures ∙ c.in-Some.is in
    let k = c.loop-parent.invariant.1.0 in
    (kept_parent slots _ _ (c.requires.forest.up _ _ up), (suc k, climb_more slots k _ _ _ c.loop-parent.invariant.1.1 up))
