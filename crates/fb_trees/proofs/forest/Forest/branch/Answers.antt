use Rattle.std.proofs.Common.{sym, subst}
use Rattle.fb_trees.specs.Rooted.{IsMinus}
use Rattle.fb_trees.proofs.ForestReads.{minus_inside}
use Rattle.fb_trees.proofs.forest.Forest.branch.Goals as goal

pub view_of-requires : goal.view_of-requires
view_of-requires c = minus_inside c.args.self.now c.args.minus c.requires

pub branch-view_of-requires : goal.branch-view_of-requires
branch-view_of-requires c =
    subst (λ g. IsMinus g c.args.minus)
    (sym
    (c.view_of.ensures c.requires.tree c.requires.grown (minus_inside c.args.self.now c.args.minus c.requires).is))
    c.requires.minus
