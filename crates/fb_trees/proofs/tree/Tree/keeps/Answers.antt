use Rattle.fb_trees.proofs.LoneTrees.{lone, tree_rooted}
use Rattle.fb_trees.proofs.tree.Tree.keeps.Goals as goal

pub returns : goal.returns
returns c = tree_rooted c.self.inside.forest c.args.self.now (lone c.self.inside.forest c.args.self.now c.self.invariant c.self.view_is) c.keeps.ensures
