use Rattle.std.proofs.Common.{sym, subst}
use Rattle.fb_trees.specs.Rooted.{IsPlus}
use Rattle.fb_trees.proofs.ForestReads.{plus_inside}
use Rattle.fb_trees.proofs.forest.Forest.branches_to.Goals as goal

pub view_of-requires : goal.view_of-requires
view_of-requires c = plus_inside c.args.self.now c.args.plus c.requires

pub branches_to-requires : goal.branches_to-requires
branches_to-requires c =
    subst (λ g. IsPlus g c.args.plus)
    (sym (c.view_of.ensures c.requires.tree c.requires.grown (plus_inside c.args.self.now c.args.plus c.requires).is))
    c.requires.plus
