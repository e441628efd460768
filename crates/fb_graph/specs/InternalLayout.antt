-- How a graph lies in memory: beside its edges, the edges at each vertex, a flag for each virtual vertex and for each
-- edge that weighs less than 0, and the detectors' vertices.
use Rattle.std.specs.Prelude.{ℕ, ◌≡◌, ◌*◌, ◌<◌, ◌≤◌, ◌&&◌, Bool, false, not, nat_lt, List, [], ◌∷◌, ◌++◌, length, map, get_or, slice_set, sum_by, filter, ℤ}
use Rattle.std.specs.Int.{is_negative}
use Rattle.std.specs.List.{range_with_len}
use Rattle.std.specs.List.Sorted.{IsStrictlyIncreasing}
use Rattle.fb_graph.specs.Parity.{is_odd_count, is_in}
use Rattle.fb_graph.specs.Problem.{edge_at, touches}
use Rattle.fb_graph.specs.Adjacency.{edges_at}
use Rattle.fb_graph.specs.GraphRules.{is_below_zero}
use Rattle.fb_graph.specs.Limits.{DecodingGraph, IsGraph, detectors_of, most_edges, most_weight, odd_ends}
use Rattle.fb_graph.specs.declared.parts.Edge.{Edge}
use Rattle.fb_graph.specs.declared.signs.Signs.{Signs}

-- the lists of edges by vertex, with the number of one more edge at the end of those of its ends
abbrev pub with_edge : List (List ℕ) → Edge → ℕ → List (List ℕ)
with_edge adjacent e k =
    slice_set (slice_set adjacent e.first (get_or adjacent e.first [] ++ k ∷ [])) e.second (get_or adjacent e.second [] ++ k ∷ [])

-- the vertices in range whose flag isn't set and at which an odd number of the listed edges end, strictly rising
pub record AreOddEnds (edges : List Edge) (virtuals : List Bool) (ks ends : List ℕ) : Type 0 where
  pub rising : IsStrictlyIncreasing ends
  pub each : (v : ℕ) → is_in ends v
      ≡ ((nat_lt v (length virtuals) && not (get_or virtuals v false))
      && is_odd_count (λ k. touches v (edge_at edges k)) ks)

-- what is kept of the signs of given weights
pub record AreSigns (given : List (ℕ × ℕ × ℤ)) (edges : List Edge) (virtuals : List Bool) (signs : Signs) : Type 0 where
  pub flags : signs.flags.items ≡ map (λ e. is_negative e.2) given
  pub negatives : signs.negatives ≡ filter (is_below_zero given) (range_with_len 0 (length given))
  pub turned : AreOddEnds edges virtuals signs.negatives signs.turned
  pub total : signs.total ≡ sum_by (λ k. (edge_at edges k).weight) signs.negatives
  pub light : signs.total ≤ most_edges * most_weight

-- the signs are kept as they are in the graph
pub record HasSigns (g : DecodingGraph) (signs : Signs) : Type 0 where
  pub flag_count : length signs.flags.items ≡ length g.edges
  pub each_flag : (k : ℕ) → k < length g.edges → get_or signs.flags.items k false ≡ is_in g.negatives k
  pub turned : signs.turned ≡ odd_ends g g.negatives
  pub total : signs.total ≡ sum_by (λ k. (edge_at g.edges k).weight) g.negatives
  pub light : signs.total ≤ most_edges * most_weight

pub record IsLaidOut (g : DecodingGraph) (adjacent : List (List ℕ)) (flags : List Bool) (detectors : List ℕ)
    (signs : Signs) : Type 0 where
  pub graph : IsGraph g
  pub adjacent_count : length adjacent ≡ g.vertices
  pub each_vertex : (v : ℕ) → v < g.vertices → get_or adjacent v [] ≡ edges_at g.edges (length g.edges) v
  pub flag_count : length flags ≡ g.vertices
  pub each_flag : (v : ℕ) → v < g.vertices → get_or flags v false ≡ is_in g.virtuals v
  pub each_detector : detectors ≡ detectors_of g
  pub edge_signs : HasSigns g signs
