-- Lists from which a check finds parities and loads without a table over the whole graph.
use Rattle.std.specs.Prelude.{ℕ, List, [], ◌∷◌, flat_map, length}
use Rattle.fb_graph.specs.Adjacency.{edges_at}
use Rattle.fb_graph.specs.Problem.{edge_at}
use Rattle.fb_graph.specs.declared.parts.Edge.{Edge}

-- both ends of each of the edges
abbrev pub ends_of : List Edge → List ℕ → List ℕ
ends_of edges numbers = flat_map (λ k. (edge_at edges k).first ∷ (edge_at edges k).second ∷ []) numbers

-- the edges at each of the vertices, one vertex after another
abbrev pub all_edges_at : List Edge → List ℕ → List ℕ
all_edges_at edges vertices = flat_map (edges_at edges (length edges)) vertices
