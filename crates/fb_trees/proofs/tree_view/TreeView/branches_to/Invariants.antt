use Rattle.std.proofs.Common.{length}
use Rattle.fb_laws.specs.Trees.{path_to}
use Rattle.fb_trees.proofs.Paths.{HasPassed}
use Rattle.fb_trees.proofs.tree_view.TreeView.branches_to.Given as goal

abbrev pub invariant-loop-branch : goal.invariant-loop-branch
invariant-loop-branch l = HasPassed l.self l.plus l.node l.path.items

abbrev pub decreases-loop-branch : goal.decreases-loop-branch
decreases-loop-branch l = length (path_to l.self.branches l.node)
