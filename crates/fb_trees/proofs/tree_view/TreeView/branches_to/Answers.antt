use Rattle.std.proofs.Common.{map, sym, ap, ◌∙◌, subst}
use Rattle.fb_trees.specs.Branches.{entry_of}
use Rattle.fb_trees.proofs.Paths.{HasPassed, passed_all, passed_falls, passed_more}
use Rattle.fb_trees.proofs.Names.{plus_in_tree}
use Rattle.fb_trees.proofs.tree_view.TreeView.branches_to.Goals as goal

pub branch_of-requires : goal.branch_of-requires
branch_of-requires c = plus_in_tree c.args.self.now.root c.args.self.now.branches c.loop-branch.node c.loop-branch.invariant.is_plus

pub loop-branch-smaller : goal.loop-branch-smaller
loop-branch-smaller c =
    passed_falls c.args.self.now c.in-Some.ensures.kept c.args.plus c.loop-branch.node c.loop-branch.path.items
    c.loop-branch.invariant c.in-Some.branch c.in-Some.ensures.branch

pub loop-branch-preserved : goal.loop-branch-preserved
loop-branch-preserved c =
    subst (HasPassed c.args.self.now c.args.plus c.in-Some.branch.parent) (sym c.in_ok-push.ensures.items)
    (passed_more c.args.self.now c.in-Some.ensures.kept c.args.plus c.loop-branch.node c.loop-branch.path.items
    c.loop-branch.invariant c.in-Some.branch c.in-Some.ensures.branch)

pub returns-clause-path : goal.returns-clause-path
returns-clause-path c =
    ap (map entry_of) c.reverse.ensures.items
    ∙ passed_all c.args.self.now c.args.plus c.loop-branch.node c.loop-branch.path.items c.loop-branch.invariant
    c.in_default.ensures.branch
