use Rattle.std.proofs.Common.{◌≡◌, ◌+◌, drop, map}
use Rattle.fb_trees.specs.Branches.{entry_of}
use Rattle.fb_trees.specs.InternalPaths.{common_count}
use Rattle.fb_trees.proofs.steps.shared_count.Given as goal

abbrev pub invariant-loop-i : goal.invariant-loop-i
invariant-loop-i l =
    common_count (map entry_of l.up) (map entry_of l.down)
    ≡ l.i + common_count (map entry_of (drop l.i l.up)) (map entry_of (drop l.i l.down))
