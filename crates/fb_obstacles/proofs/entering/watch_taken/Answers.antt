use Rattle.std.proofs.Common.{◌∙◌, ap, get_or, arith}
use Rattle.fb_graph.specs.Problem.{edge_at, touches}
use Rattle.fb_obstacles.specs.Obstacles.{roles_by}
use Rattle.fb_obstacles.proofs.SingleEdges.{listed_below, listed_touch}
use Rattle.fb_obstacles.proofs.LeftEdges.{taken_watched, watched_first, watched_more, watched_whole}
use Rattle.fb_obstacles.proofs.entering.watch_taken.Goals as goal

pub loop-edge-init : goal.loop-edge-init
loop-edge-init g c = record {
  watched = watched_first (g.S.Scope.problem c.args.scope.now) (roles_by (g.R.Roles.role_of c.args.roles.now)) c.args.regions.now.nodes c.args.watch.now;
  counted = omega arith;
}

pub watch_outer-requires-clause-room : goal.watch_outer-requires-clause-room
watch_outer-requires-clause-room g c = c.loop-edge.invariant.watched.room ∙ c.requires.room

pub watch_outer-requires-clause-below : goal.watch_outer-requires-clause-below
watch_outer-requires-clause-below g c =
    listed_below _ c.args.v c.loop-edge.edge-index c.edges_at-edge-items.result.now c.edges_at-edge-items.ensures
    c.loop-edge-test.true

pub watch_outer-requires-clause-touches : goal.watch_outer-requires-clause-touches
watch_outer-requires-clause-touches g c =
    ap (λ v. touches v (edge_at (g.S.Scope.problem c.args.scope.now).edges (get_or c.edges_at-edge-items.result.now c.loop-edge.edge-index 0))) c.of-end.ensures.vertex
    ∙ listed_touch _ c.args.v c.loop-edge.edge-index c.edges_at-edge-items.result.now c.edges_at-edge-items.ensures
    c.loop-edge-test.true

pub loop-edge-preserved : goal.loop-edge-preserved
loop-edge-preserved g c = record {
  watched = watched_more (g.S.Scope.problem c.args.scope.now) (roles_by (g.R.Roles.role_of c.args.roles.now)) c.args.regions.now.nodes
      c.edges_at-edge-items.result.now c.loop-edge.edge-index c.args.watch.now c.loop-edge.watch c.watch_outer.new.watch c.loop-edge-test.true
      c.loop-edge.invariant.watched c.watch_outer.ensures.watched;
  counted = omega (arith, c.loop-edge.invariant.counted, c.watch_outer.ensures.looks);
}

pub returns-clause-watched : goal.returns-clause-watched
returns-clause-watched g c =
    taken_watched (g.S.Scope.problem c.args.scope.now) (roles_by (g.R.Roles.role_of c.args.roles.now)) c.args.regions.now.nodes c.args.v
    c.edges_at-edge-items.result.now c.args.watch.now c.loop-edge.watch c.edges_at-edge-items.ensures
    (watched_whole _ _ _ _ c.loop-edge.edge-index _ _ c.loop-edge-test.false c.loop-edge.invariant.watched)
