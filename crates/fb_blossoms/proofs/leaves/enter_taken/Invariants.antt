use Rattle.std.proofs.Common.{take}
use Rattle.std.specs.Ordering.{nat_cmp}
use Rattle.std.specs.BTreeMap.{get as found}
use Rattle.fb_blossoms.specs.InternalLeaves.{HasLeaves, IsGrown, is_taken_child}
use Rattle.fb_blossoms.proofs.leaves.enter_taken.Given as goal

abbrev pub invariant-loop-node : goal.invariant-loop-node
invariant-loop-node l =
    IsGrown l.nodes.slots (found nat_cmp l.fn.leaves) (found nat_cmp l.leaves)
    × HasLeaves l.nodes.slots (found nat_cmp l.leaves) (is_taken_child l.nodes.slots (take l.node-index l.pairs))
