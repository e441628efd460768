-- A part with nothing unmatched and a blossom to which the laws on opened links apply; and what the definitions give
-- on a nest of two blossoms and round a ring of five.
use Rattle.std.specs.Prelude.{ℕ, ◌≡◌, ◌+◌, ◌==◌, List, [], ◌∷◌, map, if◌then◌else◌}
use Rattle.fb_graph.specs.Certificate.{IsCertified}
use Rattle.fb_graph.specs.Laws.{Link}
use Rattle.fb_graph.specs.Dual.{Node, leaf}
use Rattle.fb_laws.specs.OpenedCycles.{Couple, Pass}
use Rattle.fb_laws.specs.OpenedLinks.{opened_links}
use Rattle.fb_laws.specs.PartStates.{PartState, IsPartState}
use Rattle.fb_witnesses.specs.ResolvedWitnesses.{closed_nodes, printed_triangle}
use Rattle.fb_laws.specs.RingWays.{Round, couples_after, round_at, way_to}
use Rattle.fb_witnesses.specs.InternalSamples.{cut, link, triangle}

-- the triangle's blossom, matched to the boundary
abbrev pub triangle_part : PartState
triangle_part = record {
  nodes = closed_nodes;
  cycles = λ name. link 0 1 (0 ∷ []) ∷ link 1 2 (1 ∷ []) ∷ link 2 0 (2 ∷ []) ∷ [];
  matches = link 2 3 (3 ∷ []) ∷ [];
  unmatched = [];
}

-- The corner at the boundary keeps the link, the others are matched with each other.
abbrev pub PartWitness : Type 0
PartWitness = IsPartState triangle triangle_part
    × (opened_links triangle_part ≡ link 2 3 (3 ∷ []) ∷ link 0 1 (0 ∷ []) ∷ [])
    × IsCertified triangle (0 ∷ 3 ∷ []) 12 printed_triangle

-- five defects, the first three in a blossom, which is in a blossom with the other two; that one is matched to the
-- boundary at the fourth
abbrev pub blossom_over : ℕ → List ℕ → List ℕ → Node
blossom_over name children vertices = record { name = name; children = children; below = []; top = cut 0 vertices }

abbrev pub nested_part : PartState
nested_part = record {
  nodes =
      leaf 0 0 ∷ leaf 1 1 ∷ leaf 2 2 ∷ leaf 3 3 ∷ leaf 4 4 ∷ blossom_over 5 (0 ∷ 1 ∷ 2 ∷ []) (0 ∷ 1 ∷ 2 ∷ [])
      ∷ blossom_over 6 (5 ∷ 3 ∷ 4 ∷ []) (0 ∷ 1 ∷ 2 ∷ 3 ∷ 4 ∷ []) ∷ [];
  cycles = λ name.
      if name == 5 then link 0 1 (0 ∷ []) ∷ link 1 2 (1 ∷ []) ∷ link 2 0 (2 ∷ []) ∷ []
      else link 2 3 (3 ∷ []) ∷ link 3 4 (4 ∷ []) ∷ link 4 0 (5 ∷ []) ∷ [];
  matches = link 3 9 (6 ∷ []) ∷ [];
  unmatched = [];
}

-- The fifth is matched to the first, so that the other two of the inner blossom are matched with each other.
abbrev pub NestedExample : Type 0
NestedExample = opened_links nested_part ≡ link 3 9 (6 ∷ []) ∷ link 4 0 (5 ∷ []) ∷ link 1 2 (1 ∷ []) ∷ []

-- a ring of five, begun at the second one
abbrev pub five_links : List Link
five_links = map (λ k. link k (k + 1) (k ∷ [])) (0 ∷ 1 ∷ 2 ∷ 3 ∷ 4 ∷ [])

abbrev pub five_round : Round Link
five_round = round_at 1 (0 ∷ 1 ∷ 2 ∷ 3 ∷ 4 ∷ []) five_links

abbrev pub pass : Link → ℕ → Link → ℕ → Pass
pass matched plus tree minus = record { matched = matched; plus = plus; tree = tree; minus = minus }

abbrev pub couple : ℕ → Link → ℕ → Couple
couple first l second = record { first = first; link = l; second = second }

-- Two links on is the fourth one, three links on, so two back, the fifth one.
abbrev pub RingExample : Type 0
RingExample = (way_to 2 five_round ≡ pass (link 1 2 (1 ∷ [])) 2 (link 2 3 (2 ∷ [])) 3 ∷ [])
    × (couples_after 2 five_round ≡ couple 4 (link 4 5 (4 ∷ [])) 0 ∷ [])
    × (way_to 3 five_round ≡ pass (link 0 1 (0 ∷ [])) 0 (link 4 5 (4 ∷ [])) 4 ∷ [])
    × (couples_after 3 five_round ≡ couple 3 (link 2 3 (2 ∷ [])) 2 ∷ [])
