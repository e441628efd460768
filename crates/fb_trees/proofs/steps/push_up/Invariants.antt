use Rattle.std.proofs.Common.{◌≡◌, ◌≤◌, ◌++◌, length, map, take}
use Rattle.fb_trees.specs.Branches.{entry_of}
use Rattle.fb_trees.specs.TreeSteps.{steps_up}
use Rattle.fb_trees.proofs.steps.push_up.Given as goal

abbrev pub invariant-loop-i : goal.invariant-loop-i
invariant-loop-i l =
    (l.i ≤ length l.path)
    × (l.steps.items ++ steps_up (map entry_of (take l.i l.path)) ≡ l.initial.steps.items ++ steps_up (map entry_of l.path))

abbrev pub decreases-loop-i : goal.decreases-loop-i
decreases-loop-i l = l.i
