use Rattle.fb_obstacles.proofs.SingleEdges.{listed_below, listed_touch}
use Rattle.fb_search.proofs.NearAround.{around_all, around_more}
use Rattle.fb_search.proofs.near.around_vertex.Goals as goal

pub reach_over-reach-requires-clause-within : goal.reach_over-reach-requires-clause-within
reach_over-reach-requires-clause-within g c =
    listed_below (g.S.Scope.problem c.args.regions.now.scope).edges c.args.v c.loop-edge.edge-index c.edges_at-edge-items.result.now
    (rw c.scope-scope.ensures at c.edges_at-edge-items.ensures) c.loop-edge-test.true

pub reach_over-reach-requires-clause-touches : goal.reach_over-reach-requires-clause-touches
reach_over-reach-requires-clause-touches g c =
    listed_touch (g.S.Scope.problem c.args.regions.now.scope).edges c.args.v c.loop-edge.edge-index c.edges_at-edge-items.result.now
    (rw c.scope-scope.ensures at c.edges_at-edge-items.ensures) c.loop-edge-test.true

pub loop-edge-preserved : goal.loop-edge-preserved
loop-edge-preserved g c =
    rw c.with_reach-around.ensures
    (around_more (g.S.Scope.problem c.args.regions.now.scope) c.args.regions.now.nodes c.args.matching.now.unmatched c.args.v
    c.reach_over-reach.result c.reach_over-reach.ensures.reach c.loop-edge.edge-index c.edges_at-edge-items.result.now
    c.loop-edge.around c.loop-edge-test.true c.reach_over-reach.ensures.edge c.loop-edge.invariant)

pub returns-clause-target : goal.returns-clause-target
returns-clause-target g c =
    (around_all (g.S.Scope.problem c.args.regions.now.scope) c.args.regions.now.nodes c.args.matching.now.unmatched c.args.v
    c.loop-edge.edge-index c.edges_at-edge-items.result.now c.loop-edge.around (rw c.scope-scope.ensures at c.limits.ensures)
    c.keeps.ensures.nest (rw c.scope-scope.ensures at c.edges_at-edge-items.ensures) c.loop-edge-test.false
    c.loop-edge.invariant).0

pub returns-clause-room : goal.returns-clause-room
returns-clause-room g c =
    (around_all (g.S.Scope.problem c.args.regions.now.scope) c.args.regions.now.nodes c.args.matching.now.unmatched c.args.v
    c.loop-edge.edge-index c.edges_at-edge-items.result.now c.loop-edge.around (rw c.scope-scope.ensures at c.limits.ensures)
    c.keeps.ensures.nest (rw c.scope-scope.ensures at c.edges_at-edge-items.ensures) c.loop-edge-test.false
    c.loop-edge.invariant).1
