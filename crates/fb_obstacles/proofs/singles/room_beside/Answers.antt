use Rattle.fb_obstacles.proofs.SingleEdges.{listed_below, listed_touch, room_of_all}
use Rattle.fb_obstacles.proofs.singles.room_beside.Goals as goal

pub other_end-end-requires-clause-within : goal.other_end-end-requires-clause-within
other_end-end-requires-clause-within g c =
    listed_below (g.S.Scope.problem c.scope-scope.result.now).edges c.args.v c.loop-edge.edge-index c.edges_at-edge-items.result.now
    c.edges_at-edge-items.ensures c.loop-edge-test.true

pub other_end-end-requires-clause-touches : goal.other_end-end-requires-clause-touches
other_end-end-requires-clause-touches g c =
    listed_touch (g.S.Scope.problem c.scope-scope.result.now).edges c.args.v c.loop-edge.edge-index c.edges_at-edge-items.result.now
    c.edges_at-edge-items.ensures c.loop-edge-test.true

pub weight-requires : goal.weight-requires
weight-requires g c =
    listed_below (g.S.Scope.problem c.scope-scope.result.now).edges c.args.v c.loop-edge.edge-index c.edges_at-edge-items.result.now
    c.edges_at-edge-items.ensures c.loop-edge-test.true

pub returns : goal.returns
returns g c =
    room_of_all (g.S.Scope.problem c.args.regions.now.scope).edges c.args.regions.now.nodes c.args.v c.args.far 0
    c.loop-edge.room c.loop-edge.edge-index c.edges_at-edge-items.result.now
    (rw c.scope-scope.ensures at c.edges_at-edge-items.ensures) c.loop-edge-test.false c.loop-edge.invariant
