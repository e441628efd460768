use Rattle.fb_trees.specs.Branches.{entry_of}
use Rattle.fb_trees.proofs.Lookups.{role_of_minus, role_of_plus, role_plus}
use Rattle.fb_trees.proofs.Paths.{plus_without_branch}
use Rattle.fb_trees.proofs.tree_view.TreeView.role.Goals as goal

pub returns-in-Some : goal.returns-in-Some
returns-in-Some c =
    role_of_plus c.args.self.now c.args.node (entry_of c.in-Some.branch) c.in-Some.ensures.branch c.if-branch-node.true

pub returns-in-Some-2 : goal.returns-in-Some-2
returns-in-Some-2 c =
    role_of_minus c.args.self.now c.args.node (entry_of c.in-Some.branch) c.in-Some.ensures.kept c.in-Some.ensures.branch
    c.if-branch-node.false

pub returns-in-None : goal.returns-in-None
returns-in-None c =
    role_plus c.args.self.now c.args.node
    (plus_without_branch c.args.self.now c.args.node c.requires c.in-None.ensures.branch)
