use Rattle.std.proofs.Common.{get_or, subst}
use Rattle.fb_graph.specs.Dual.{top_at}
use Rattle.fb_obstacles.specs.InternalWatching.{Watches}
use Rattle.fb_search.proofs.DissolvedWatches.{each_first, each_on}
use Rattle.fb_search.proofs.growing_begin.watch_nodes.Goals as goal

pub loop-node-init : goal.loop-node-init
loop-node-init g c = each_first (g.S.Scope.problem c.args.regions.now.scope) c.args.regions.now.nodes c.args.watch.now

pub loop-node-preserved : goal.loop-node-preserved
loop-node-preserved g c =
    each_on (g.S.Scope.problem c.args.regions.now.scope) c.args.regions.now.nodes c.args.nodes.now c.loop-node.node-index
    c.args.watch.now c.loop-node.watch c.watch_node.new.watch c.loop-node-test.true c.loop-node.invariant
    (subst
    (λ s.
    Watches (g.S.Scope.problem s) (top_at c.args.regions.now.nodes (get_or c.args.nodes.now c.loop-node.node-index 0))
    c.loop-node.watch c.watch_node.new.watch) c.scope.ensures c.watch_node.ensures)
