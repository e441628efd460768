use Rattle.std.proofs.Common.{◌∙◌}
use Rattle.fb_trees.proofs.ForestRoles.{role_of_none, role_of_tree}
use Rattle.fb_trees.proofs.ForestsKept.{node_of}
use Rattle.fb_trees.proofs.forest.Forest.role.Goals as goal

pub returns-in-Some : goal.returns-in-Some
returns-in-Some c =
    let (g, is) = c.in-Some.ensures.tree in
    c.role.ensures
    ∙ role_of_tree c.args.self.now c.in-Some.ensures.kept c.in-Some.tree c.args.node c.view.result
    (node_of c.args.self.now c.args.node c.in-Some.tree g c.view.result is c.view.ensures)

pub returns-in-None : goal.returns-in-None
returns-in-None c = role_of_none c.args.self.now c.args.node c.in-None.ensures.tree
