use Rattle.std.proofs.Common.{sym, subst}
use Rattle.fb_trees.specs.Rooted.{IsPlus}
use Rattle.fb_trees.proofs.ForestReads.{together_inside}
use Rattle.fb_trees.proofs.forest.Forest.cycle_of.Goals as goal

pub view_of-requires : goal.view_of-requires
view_of-requires c = together_inside c.args.self.now c.args.a c.args.b c.requires.together

pub cycle_of-requires-clause-first : goal.cycle_of-requires-clause-first
cycle_of-requires-clause-first c =
    subst (λ g. IsPlus g c.args.a)
    (sym
    (c.view_of.ensures c.requires.together.tree c.requires.together.grown
    (together_inside c.args.self.now c.args.a c.args.b c.requires.together).is))
    c.requires.together.first

pub cycle_of-requires-clause-second : goal.cycle_of-requires-clause-second
cycle_of-requires-clause-second c =
    subst (λ g. IsPlus g c.args.b)
    (sym
    (c.view_of.ensures c.requires.together.tree c.requires.together.grown
    (together_inside c.args.self.now c.args.a c.args.b c.requires.together).is))
    c.requires.together.second
