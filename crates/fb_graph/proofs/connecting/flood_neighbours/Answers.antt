use Rattle.std.proofs.Common.{◌∙◌, length, ap}
use Rattle.fb_graph.specs.Adjacency.{edges_at}
use Rattle.fb_graph.proofs.Floods.{neighbours_all, neighbours_more}
use Rattle.fb_graph.proofs.Ranges.{filter-range_below}
use Rattle.fb_graph.proofs.connecting.flood_neighbours.Goals as goal

pub reach_ends-requires-clause-edge : goal.reach_ends-requires-clause-edge
reach_ends-requires-clause-edge g c =
    rw c.edges_at-edges.ensures
    (filter-range_below _ _ c.loop-edge.edge-index 0 (rw c.edges_at-edges.ensures at c.loop-edge-test.true))

pub loop-edge-preserved : goal.loop-edge-preserved
loop-edge-preserved g c =
    let p = g.S.Scope.problem c.args.scope.now in
    let (flooding, grows, settled) =
    neighbours_more p c.limits.ensures c.args.flood.now c.loop-edge.flood c.args.place c.args.label c.requires.place
    c.loop-edge.invariant.flooding c.loop-edge.invariant.grows c.edges_at-edges.result.now c.loop-edge.edge-index
    (c.edges_at-edges.ensures ∙ ap (edges_at p.edges (length p.edges)) c.vertex_at.ensures.value) c.loop-edge-test.true
    c.loop-edge.invariant.settled in
    rw c.in_ok-reach_ends.ensures (record { flooding = flooding; grows = grows; settled = settled })

pub returns-clause-flooding : goal.returns-clause-flooding
returns-clause-flooding g c =
    let p = g.S.Scope.problem c.args.scope.now in
    neighbours_all p c.limits.ensures c.args.flood.now c.loop-edge.flood c.args.place c.args.label c.requires.place
    c.loop-edge.invariant.flooding c.loop-edge.invariant.grows c.edges_at-edges.result.now c.loop-edge.edge-index
    (c.edges_at-edges.ensures ∙ ap (edges_at p.edges (length p.edges)) c.vertex_at.ensures.value) c.loop-edge-test.false
    c.loop-edge.invariant.settled
