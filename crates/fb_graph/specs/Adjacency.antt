-- The edges at a vertex.
use Rattle.std.specs.Prelude.{ℕ, List, filter}
use Rattle.std.specs.List.{range_with_len}
use Rattle.fb_graph.specs.Problem.{edge_at, touches}
use Rattle.fb_graph.specs.declared.parts.Edge.{Edge}

-- the numbers of the edges at v among the first `count`, rising
abbrev pub edges_at : List Edge → ℕ → ℕ → List ℕ
edges_at edges count v = filter (λ k. touches v (edge_at edges k)) (range_with_len 0 count)
