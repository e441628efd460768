use Rattle.std.proofs.Common.{take}
use Rattle.std.specs.Ordering.{nat_cmp}
use Rattle.std.specs.BTreeMap.{get as found}
use Rattle.fb_blossoms.specs.Nodes.{is_on}
use Rattle.fb_blossoms.specs.InternalLeaves.{HasLeaves, IsGrown}
use Rattle.fb_blossoms.proofs.leaves.enter_children.Given as goal

abbrev pub invariant-loop-step : goal.invariant-loop-step
invariant-loop-step l =
    IsGrown l.nodes.slots (found nat_cmp l.fn.leaves) (found nat_cmp l.leaves)
    × HasLeaves l.nodes.slots (found nat_cmp l.leaves) (is_on (take l.step-index l.cycle))
