use Rattle.fb_trees.proofs.ForestsKept.{tree_is}
use Rattle.fb_trees.proofs.forest.Forest.view_of.Goals as goal

pub returns : goal.returns
returns c t g is =
    let (h, there) = c.in-Some.ensures.tree in
    tree_is c.args.self.now c.in-Some.ensures.kept c.args.node c.in-Some.tree t g h c.view.result there c.view.ensures is
