use Rattle.std.proofs.lemmas.Result.{IfOk-weaker}
use Rattle.fb_trees.proofs.LoneTrees.{lone, node_inside, tree_0}
use Rattle.fb_trees.proofs.tree.Tree.path_to_root.Goals as goal

pub path_to_root-requires : goal.path_to_root-requires
path_to_root-requires c = node_inside c.self.inside.forest c.args.self.now (lone c.self.inside.forest c.args.self.now c.self.invariant c.self.view_is) c.args.node c.requires

pub returns : goal.returns
returns c =
    IfOk-weaker c.path_to_root.result _ _
    (λ path is.
    is 0 c.args.self.now
    (tree_0 c.self.inside.forest c.args.self.now (lone c.self.inside.forest c.args.self.now c.self.invariant c.self.view_is) c.args.node c.requires))
    c.path_to_root.ensures
