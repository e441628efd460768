use Rattle.std.proofs.Common.{subst}
use Rattle.fb_trees.specs.Forests.{AreRootedApart}
use Rattle.fb_trees.proofs.ForestsKept.{kept_apart}
use Rattle.fb_trees.proofs.forest.Forest.keeps.Goals as goal

pub returns : goal.returns
returns c = subst AreRootedApart c.self.view_is (kept_apart _ _ _ c.self.invariant.kept)
