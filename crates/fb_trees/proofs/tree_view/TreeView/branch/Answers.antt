use Rattle.fb_trees.specs.Branches.{entry_of}
use Rattle.fb_trees.proofs.Lookups.{minus_branch, minus_has_branch}
use Rattle.fb_trees.proofs.Names.{minus_in_names}
use Rattle.fb_trees.proofs.tree_view.TreeView.branch.Goals as goal

pub branch_of-requires : goal.branch_of-requires
branch_of-requires c = minus_in_names c.args.self.now.root c.args.self.now.branches c.args.minus c.requires

pub unreachable-requires : goal.unreachable-requires
unreachable-requires c = minus_has_branch c.args.self.now c.args.minus c.requires c.in_default.ensures.branch

pub returns : goal.returns
returns c =
    minus_branch c.args.self.now c.args.minus (entry_of c.in-Some.branch) c.in-Some.ensures.kept c.requires c.in-Some.ensures.branch
