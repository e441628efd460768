use Rattle.std.proofs.Common.{◌≡◌, ◌≤◌, ◌++◌, length, map, take}
use Rattle.fb_laws.specs.Trees.{branches_beside}
use Rattle.fb_trees.specs.Branches.{entries_of, entry_of}
use Rattle.fb_trees.proofs.steps.branches_beside.Given as goal

abbrev pub invariant-loop-i : goal.invariant-loop-i
invariant-loop-i l =
    (l.i ≤ length l.branches)
    × (map entry_of l.others.items ++ branches_beside (entries_of (take l.i l.branches)) l.node ≡ branches_beside (entries_of l.branches) l.plus)

abbrev pub decreases-loop-i : goal.decreases-loop-i
decreases-loop-i l = l.i
