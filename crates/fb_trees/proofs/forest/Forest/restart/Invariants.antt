use Rattle.std.proofs.Common.{◌≡◌, take}
use Rattle.fb_trees.specs.Forests.{bare_trees}
use Rattle.fb_trees.proofs.forest.Forest.restart.Given as goal

abbrev pub invariant-loop-root : goal.invariant-loop-root
invariant-loop-root l = l.self ≡ bare_trees (take l.root-index l.roots)
