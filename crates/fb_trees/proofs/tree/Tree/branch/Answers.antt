use Rattle.fb_trees.proofs.LoneTrees.{lone, minus_node, tree_0}
use Rattle.fb_trees.proofs.Names.{minus_in_names}
use Rattle.fb_trees.proofs.tree.Tree.branch.Goals as goal

pub branch-self-requires : goal.branch-self-requires
branch-self-requires c = minus_node c.self.inside.forest c.args.self.now (lone c.self.inside.forest c.args.self.now c.self.invariant c.self.view_is) c.args.minus c.requires

pub returns : goal.returns
returns c =
    c.branch-self.ensures 0 c.args.self.now
    (tree_0 c.self.inside.forest c.args.self.now (lone c.self.inside.forest c.args.self.now c.self.invariant c.self.view_is) c.args.minus
    (minus_in_names c.args.self.now.root c.args.self.now.branches c.args.minus c.requires))
