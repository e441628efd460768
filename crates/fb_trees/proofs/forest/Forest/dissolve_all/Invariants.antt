use Rattle.fb_trees.proofs.ForestsCounted.{AreGoneBelow}
use Rattle.fb_trees.proofs.forest.Forest.dissolve_all.Given as goal

abbrev pub invariant-loop-tree : goal.invariant-loop-tree
invariant-loop-tree l = AreGoneBelow l.fn.self l.self l.tree
