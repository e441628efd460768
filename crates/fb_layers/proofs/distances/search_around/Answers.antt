use Rattle.std.proofs.Common.{◌∙◌, length, ap}
use Rattle.fb_graph.specs.Adjacency.{edges_at}
use Rattle.fb_layers.specs.declared.search.Reached.{Reached}
use Rattle.fb_layers.proofs.Searching.{around_all, around_edge, around_more}
use Rattle.fb_layers.proofs.distances.search_around.Goals as goal

pub reach_over-requires-clause-edge : goal.reach_over-requires-clause-edge
reach_over-requires-clause-edge c =
    (around_edge c.args.graph.now c.args.search.now c.loop-edge.search c.args.place c.edges_at-edges.result.now c.requires.place
    (c.edges_at-edges.ensures
    ∙ ap (λ (q : Reached). edges_at c.args.graph.now.edges (length c.args.graph.now.edges) q.vertex) c.reached_at.ensures)
    c.loop-edge.edge-index 0 c.loop-edge.invariant.grows c.loop-edge-test.true).0

pub reach_over-requires-clause-touches : goal.reach_over-requires-clause-touches
reach_over-requires-clause-touches c =
    (around_edge c.args.graph.now c.args.search.now c.loop-edge.search c.args.place c.edges_at-edges.result.now c.requires.place
    (c.edges_at-edges.ensures
    ∙ ap (λ (q : Reached). edges_at c.args.graph.now.edges (length c.args.graph.now.edges) q.vertex) c.reached_at.ensures)
    c.loop-edge.edge-index 0 c.loop-edge.invariant.grows c.loop-edge-test.true).1

pub loop-edge-preserved : goal.loop-edge-preserved
loop-edge-preserved c =
    around_more c.args.graph.now c.args.search.now c.loop-edge.search c.args.place c.edges_at-edges.result.now c.requires.place
    (c.edges_at-edges.ensures
    ∙ ap (λ (q : Reached). edges_at c.args.graph.now.edges (length c.args.graph.now.edges) q.vertex) c.reached_at.ensures)
    c.reach_over.new.search c.loop-edge.edge-index 0 c.loop-edge-test.true c.loop-edge.invariant
    c.in_ok-reach_over.ensures.searched c.in_ok-reach_over.ensures.grows c.in_ok-reach_over.ensures.near

pub returns-clause-searched : goal.returns-clause-searched
returns-clause-searched c =
    around_all c.args.graph.now c.args.search.now c.loop-edge.search c.args.place c.edges_at-edges.result.now c.requires.place
    (c.edges_at-edges.ensures
    ∙ ap (λ (q : Reached). edges_at c.args.graph.now.edges (length c.args.graph.now.edges) q.vertex) c.reached_at.ensures)
    c.loop-edge.edge-index c.limits.ensures c.loop-edge-test.false c.loop-edge.invariant
