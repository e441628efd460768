-- The premises of the laws on the row of a solved part are met: two walks of the triangle that share an edge,
-- and the triangle's blossom as a part of a problem with more vertices.
use Rattle.std.specs.Prelude.{ℕ, ◌≡◌, ◌<◌, ◌==◌, true, List, [], ◌∷◌, All, flat_map}
use Rattle.std.specs.List.Sorted.{IsStrictlyIncreasing}
use Rattle.fb_graph.specs.Parity.{is_in, is_odd_count}
use Rattle.fb_graph.specs.Problem.{Problem}
use Rattle.fb_graph.specs.Certificate.{AreRising, IsCertified}
use Rattle.fb_graph.specs.Components.{IsWalkBy}
use Rattle.fb_graph.specs.Printed.{HasPositiveCuts}
use Rattle.fb_graph.specs.Laws.{IsPart, IsSolved, Link, odd_edges, odd_ones}
use Rattle.fb_graph.specs.Dual.{all_cuts}
use Rattle.fb_graph.specs.Nests.{IsNest}
use Rattle.fb_laws.specs.OpenedLinks.{opened_links}
use Rattle.fb_laws.specs.PartStates.{IsPartState}
use Rattle.fb_laws.specs.Works.{HasDefects, positive_cuts}
use Rattle.fb_witnesses.specs.OpenedWitnesses.{triangle_part}
use Rattle.fb_witnesses.specs.ResolvedWitnesses.{closed_nodes, printed_triangle}
use Rattle.fb_witnesses.specs.InternalSamples.{link, triangle}

-- both go over edge 2
abbrev pub shared_links : List Link
shared_links = link 1 2 (0 ∷ 2 ∷ []) ∷ link 0 3 (2 ∷ 3 ∷ []) ∷ []

abbrev pub OddWitness : Type 0
OddWitness = IsStrictlyIncreasing (0 ∷ 3 ∷ []) × All (λ k. k < 4) (0 ∷ 3 ∷ [])
    × ((k : ℕ) → is_odd_count (λ j. j == k) (0 ∷ 3 ∷ []) ≡ is_odd_count (λ j. j == k) (0 ∷ 2 ∷ 2 ∷ 3 ∷ []))
    × (odd_ones 4 (0 ∷ 2 ∷ 2 ∷ 3 ∷ []) ≡ 0 ∷ 3 ∷ [])
    × All (λ l. IsWalkBy triangle l.walk l.from l.to) shared_links
    × (flat_map (λ l. l.walk) shared_links ≡ 0 ∷ 2 ∷ 2 ∷ 3 ∷ [])
    × (odd_edges triangle shared_links ≡ 0 ∷ 3 ∷ [])

-- a problem of more vertices with the same real ones and the same defects among them; the defect 3 isn't real
abbrev pub whole_triangle : Problem
whole_triangle = record {
  vertices = 9;
  edges = triangle.edges;
  is_real = is_in (2 ∷ 1 ∷ 0 ∷ []);
  is_defect = is_in (3 ∷ 2 ∷ 1 ∷ 0 ∷ []);
}

abbrev pub BestWitness : Type 0
BestWitness = IsNest triangle closed_nodes × HasDefects triangle closed_nodes
    × IsSolved triangle (positive_cuts closed_nodes) (0 ∷ 3 ∷ [])
    × HasPositiveCuts (all_cuts closed_nodes) printed_triangle × AreRising printed_triangle
    × IsCertified triangle (0 ∷ 3 ∷ []) 12 printed_triangle × IsPart triangle whole_triangle
    × ((v : ℕ) → whole_triangle.is_real v ≡ true → triangle.is_real v ≡ true)
    × IsPartState triangle triangle_part × (triangle_part.unmatched ≡ []) × IsStrictlyIncreasing (0 ∷ 3 ∷ [])
    × ((k : ℕ) → is_odd_count (λ j. j == k) (0 ∷ 3 ∷ [])
    ≡ is_odd_count (λ j. j == k) (flat_map (λ l. l.walk) (opened_links triangle_part)))
    × IsCertified whole_triangle (0 ∷ 3 ∷ []) 12 printed_triangle
