use Rattle.fb_trees.proofs.LoneTrees.{at_0, lone}
use Rattle.fb_trees.proofs.tree.Tree.branches.Goals as goal

pub branches-requires : goal.branches-requires
branches-requires c = (c.args.self.now, at_0 c.self.inside.forest c.args.self.now (lone c.self.inside.forest c.args.self.now c.self.invariant c.self.view_is))
