use Rattle.std.proofs.Common.{◌≡◌, ◌++◌, drop, map}
use Rattle.fb_trees.specs.Branches.{entry_of}
use Rattle.fb_trees.specs.InternalPaths.{steps_down}
use Rattle.fb_trees.proofs.steps.push_down.Given as goal

abbrev pub invariant-loop-branch : goal.invariant-loop-branch
invariant-loop-branch l =
    l.steps.items ++ steps_down l.node (map entry_of (drop l.branch-index l.path)) l.closing
    ≡ l.initial.steps.items ++ steps_down l.from (map entry_of l.path) l.closing
