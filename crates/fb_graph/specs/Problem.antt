-- The problem of minimum-weight decoding (Edmonds and Johnson 1973, as T-joins; Wu and Zhong 2023): which edges
-- to choose so that each real vertex has an odd number of chosen edges if and only if it is a defect.
use Rattle.std.specs.Prelude.{ℕ, ◌≡◌, ◌<◌, ◌==◌, Bool, true, List, length, All, sum_by, get_or}
use Rattle.std.specs.List.Sorted.{IsStrictlyIncreasing}
use Rattle.fb_graph.specs.Parity.{differ, is_odd_count, is_in}
use Rattle.fb_graph.specs.declared.parts.Edge.{Edge}

-- Vertices are numbered from 0 below `vertices`, edges by their places. A vertex that isn't real is boundary
-- (virtual): any number of chosen edges may end there. Only real vertices count as defects.
pub record Problem : Type 0 where
  pub vertices : ℕ
  pub edges : List Edge
  pub is_real : ℕ → Bool
  pub is_defect : ℕ → Bool

abbrev pub no_edge : Edge
no_edge = record { first = 0; second = 0; weight = 0 }

-- the edge of number k
abbrev pub edge_at : List Edge → ℕ → Edge
edge_at edges k = get_or edges k no_edge

-- exactly one end of the edge is v
abbrev pub touches : ℕ → Edge → Bool
touches v e = differ (v == e.first) (v == e.second)

-- exactly one end of the edge lies in the set
abbrev pub crosses : List ℕ → Edge → Bool
crosses set e = differ (is_in set e.first) (is_in set e.second)

-- an edge set: numbers of edges, strictly rising
pub record IsEdgeSet (p : Problem) (chosen : List ℕ) : Type 0 where
  pub rising : IsStrictlyIncreasing chosen
  pub within : All (λ k. k < length p.edges) chosen

-- the edge set is a correction: a real vertex has an odd number of its edges if and only if it is a defect
abbrev pub Flips : Problem → List ℕ → Type 0
Flips p chosen = (v : ℕ) → p.is_real v ≡ true
    → is_odd_count (λ k. touches v (edge_at p.edges k)) chosen ≡ p.is_defect v

-- the sum of the weights of the chosen edges
abbrev pub weight_of : Problem → List ℕ → ℕ
weight_of p chosen = sum_by (λ k. (edge_at p.edges k).weight) chosen

-- the same problem with these vertices as its defects
abbrev pub with_defects : Problem → List ℕ → Problem
with_defects p defects = record p { is_defect = is_in defects }
