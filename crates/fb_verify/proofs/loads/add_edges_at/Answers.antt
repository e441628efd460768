use Rattle.std.proofs.Common.{ℕ, List, ◌++◌, length, refl, ap, ◌∙◌}
use Rattle.fb_graph.specs.Adjacency.{edges_at}
use Rattle.fb_verify.specs.InternalMarks.{all_edges_at}
use Rattle.fb_verify.proofs.Adding.{one_added, all_added}
use Rattle.fb_verify.proofs.loads.add_edges_at.Goals as goal

pub loop-vertex-preserved : goal.loop-vertex-preserved
loop-vertex-preserved c =
    let edges = c.args.graph.now.edges in
    one_added (all_edges_at edges) (edges_at edges (length edges)) _ c.loop-vertex.edges.items _ c.args.vertices.now c.loop-vertex.vertex-index 0
    (λ v rest. refl) c.loop-vertex-test.true c.loop-vertex.invariant
    (c.in_ok-extend_from_slice.ensures.items ∙ ap (λ (added : List ℕ). c.loop-vertex.edges.items ++ added) c.edges_at.ensures)

pub returns : goal.returns
returns c =
    all_added (all_edges_at c.args.graph.now.edges) _ c.loop-vertex.edges.items c.args.vertices.now c.loop-vertex.vertex-index refl c.loop-vertex-test.false
    c.loop-vertex.invariant
