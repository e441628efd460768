use Rattle.std.proofs.Common.{subst}
use Rattle.fb_trees.specs.Forests.{AreRootedApart}
use Rattle.fb_trees.proofs.ForestsKept.{kept_apart}
use Rattle.fb_trees.proofs.forest.Forest.tree_of.Goals as goal

pub returns-clause-kept : goal.returns-clause-kept
returns-clause-kept c = subst AreRootedApart c.self.view_is (kept_apart _ _ _ c.self.invariant.kept)
