use Rattle.std.proofs.lemmas.Result.{IfOk-weaker}
use Rattle.fb_trees.proofs.LoneTrees.{lone, plus_together, tree_0}
use Rattle.fb_trees.proofs.Names.{plus_in_tree}
use Rattle.fb_trees.proofs.tree.Tree.cycle_of.Goals as goal

pub cycle_of-requires-clause-together : goal.cycle_of-requires-clause-together
cycle_of-requires-clause-together c =
    plus_together c.self.inside.forest c.args.self.now (lone c.self.inside.forest c.args.self.now c.self.invariant c.self.view_is) c.args.a c.args.b
    c.requires.first c.requires.second

pub returns-clause-cycle : goal.returns-clause-cycle
returns-clause-cycle c =
    IfOk-weaker c.cycle_of.result _ _
    (λ cycle is.
    is 0 c.args.self.now
    (tree_0 c.self.inside.forest c.args.self.now (lone c.self.inside.forest c.args.self.now c.self.invariant c.self.view_is) c.args.a
    (plus_in_tree c.args.self.now.root c.args.self.now.branches c.args.a c.requires.first)))
    c.cycle_of.ensures.cycle
