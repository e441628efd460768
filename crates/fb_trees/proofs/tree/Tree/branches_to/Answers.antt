use Rattle.std.proofs.lemmas.Result.{IfOk-weaker}
use Rattle.fb_trees.proofs.LoneTrees.{lone, plus_node, tree_0}
use Rattle.fb_trees.proofs.Names.{plus_in_tree}
use Rattle.fb_trees.proofs.tree.Tree.branches_to.Goals as goal

pub branches_to-requires : goal.branches_to-requires
branches_to-requires c = plus_node c.self.inside.forest c.args.self.now (lone c.self.inside.forest c.args.self.now c.self.invariant c.self.view_is) c.args.plus c.requires

pub returns : goal.returns
returns c =
    IfOk-weaker c.branches_to.result _ _
    (λ path is.
    is 0 c.args.self.now
    (tree_0 c.self.inside.forest c.args.self.now (lone c.self.inside.forest c.args.self.now c.self.invariant c.self.view_is) c.args.plus
    (plus_in_tree c.args.self.now.root c.args.self.now.branches c.args.plus c.requires)))
    c.branches_to.ensures
