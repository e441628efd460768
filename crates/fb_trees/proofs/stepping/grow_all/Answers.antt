use Rattle.std.proofs.Common.{ap, subst, sym, ◌∙◌}
use Rattle.fb_graph.specs.Covers.{AreRoles}
use Rattle.fb_graph.specs.Steps.{MayStep, stepped_nodes}
use Rattle.fb_trees.proofs.PacedForests.{paces_are, plus_are}
use Rattle.fb_trees.proofs.stepping.grow_all.Goals as goal

pub advance-requires-clause-roles : goal.advance-requires-clause-roles
advance-requires-clause-roles g c =
    subst (λ r. AreRoles r c.args.regions.now.nodes)
    (sym (paces_are c.args.regions.now c.args.forest.now c.requires.paces c.keeps.ensures.paces c.requires.forest.roles.exclusive))
    c.requires.forest.roles

pub advance-requires-clause-crossed : goal.advance-requires-clause-crossed
advance-requires-clause-crossed g c n plus =
    c.requires.forest.crossed n (sym (plus_are c.args.regions.now c.args.forest.now c.requires.paces n) ∙ plus)

pub advance-requires-clause-may : goal.advance-requires-clause-may
advance-requires-clause-may g c =
    subst (λ r. MayStep (g.S.Scope.problem c.args.regions.now.scope) r c.args.regions.now.nodes c.args.length)
    (sym (paces_are c.args.regions.now c.args.forest.now c.requires.paces c.keeps.ensures.paces c.requires.forest.roles.exclusive))
    c.requires.may

pub returns : goal.returns
returns g c =
    c.advance.ensures
    ∙ ap (λ r. record c.args.regions.now { nodes = stepped_nodes r c.args.length c.args.regions.now.nodes })
    (paces_are c.args.regions.now c.args.forest.now c.requires.paces c.keeps.ensures.paces c.requires.forest.roles.exclusive)
