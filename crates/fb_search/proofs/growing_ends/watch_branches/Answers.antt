use Rattle.std.proofs.Common.{ap}
use Rattle.fb_search.proofs.DissolvedWatches.{each_branch}
use Rattle.fb_search.proofs.growing_ends.watch_branches.Goals as goal

pub loop-branch-preserved : goal.loop-branch-preserved
loop-branch-preserved g c =
    each_branch (g.S.Scope.problem c.args.regions.now.scope) (g.S.Scope.problem c.scope.result.now) (ap g.S.Scope.problem c.scope.ensures)
    c.args.regions.now.nodes c.args.branches.now c.loop-branch.branch-index _ c.args.watch.now c.loop-branch.watch
    c.watch_node.new.watch c.loop-branch-test.true c.loop-branch.invariant c.watch_node.ensures
