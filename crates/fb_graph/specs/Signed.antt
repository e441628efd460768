-- Weights of either sign. A problem holds the absolute weights, and a test says which edges weigh less than nothing.
-- Choosing all of these first shifts the defects; what remains is a problem without negative weights.
use Rattle.std.specs.Prelude.{ℕ, ◌≡◌, ◌+◌, ◌≤◌, ◌<◌, Bool, List, length, All, Option, filter, sum_by, if◌then◌else◌}
use Rattle.std.specs.List.{range_with_len}
use Rattle.fb_graph.specs.Parity.{differ, is_odd_count, is_in}
use Rattle.fb_graph.specs.Problem.{Problem, Flips, IsEdgeSet, edge_at, touches, weight_of}
use Rattle.fb_graph.specs.Certificate.{AreDistinct, IsPacking, total_value}
use Rattle.fb_graph.specs.Components.{IsFirstOdd}
use Rattle.fb_graph.specs.Laws.{HasNoOddClosed, IsSolved}
use Rattle.fb_graph.specs.declared.parts.Cut.{Cut}

-- the edges of negative weight, rising
abbrev pub negative_edges : Problem → (ℕ → Bool) → List ℕ
negative_edges p is_negative = filter is_negative (range_with_len 0 (length p.edges))

-- the problem whose defects are shifted: a vertex changes if an odd number of edges of negative weight end there
abbrev pub shifted_problem : Problem → (ℕ → Bool) → Problem
shifted_problem p is_negative =
    record p {
      is_defect = λ v.
          differ (p.is_defect v) (is_odd_count (λ k. touches v (edge_at p.edges k)) (negative_edges p is_negative));
    }

-- The weight of a choice is what its other edges weigh less what its negative edges weigh.
abbrev pub added_weight : Problem → (ℕ → Bool) → List ℕ → ℕ
added_weight p is_negative chosen = sum_by (λ k. if is_negative k then 0 else (edge_at p.edges k).weight) chosen

abbrev pub taken_weight : Problem → (ℕ → Bool) → List ℕ → ℕ
taken_weight p is_negative chosen = sum_by (λ k. if is_negative k then (edge_at p.edges k).weight else 0) chosen

-- The base is what all negative edges together weigh, with its sign turned.
abbrev pub taken_by_all : Problem → (ℕ → Bool) → ℕ
taken_by_all p is_negative = weight_of p (negative_edges p is_negative)

-- the edges that are either chosen or negative, but not both
abbrev pub unshifted_edges : Problem → (ℕ → Bool) → List ℕ → List ℕ
unshifted_edges p is_negative chosen = filter (λ k. differ (is_in chosen k) (is_negative k))
    (range_with_len 0 (length p.edges))

-- Signed weak duality: total - base ≤ added - taken, each term on the side on which it has no sign. Unlike weak
-- duality it needs a choice without repetition, since a negative edge chosen twice would be taken off twice.
abbrev pub SignedDuality : Type 0
SignedDuality = (p : Problem) (is_negative : ℕ → Bool) (cuts : List Cut) (chosen : List ℕ)
    → IsPacking (shifted_problem p is_negative) cuts → AreDistinct chosen → All (λ k. k < length p.edges) chosen
    → Flips p chosen
    → total_value cuts + taken_weight p is_negative chosen ≤ added_weight p is_negative chosen + taken_by_all p is_negative

-- a correction of the signed problem that weighs what the cuts are worth less the base
pub record IsSignedSolved (p : Problem) (is_negative : ℕ → Bool) (cuts : List Cut) (chosen : List ℕ) : Type 0 where
  pub edge_set : IsEdgeSet p chosen
  pub flips : Flips p chosen
  pub weighs : added_weight p is_negative chosen + taken_by_all p is_negative
      ≡ total_value cuts + taken_weight p is_negative chosen

-- What solves the shifted problem, unshifted, solves the signed one.
abbrev pub SignedSolved : Type 0
SignedSolved = (p : Problem) (is_negative : ℕ → Bool) (cuts : List Cut) (chosen : List ℕ)
    → IsSolved (shifted_problem p is_negative) cuts chosen → IsSignedSolved p is_negative cuts (unshifted_edges p is_negative chosen)

-- No correction weighs less than it.
abbrev pub SignedLeast : Type 0
SignedLeast = (p : Problem) (is_negative : ℕ → Bool) (cuts : List Cut) (chosen other : List ℕ)
    → IsPacking (shifted_problem p is_negative) cuts → IsSignedSolved p is_negative cuts chosen → IsEdgeSet p other
    → Flips p other
    → added_weight p is_negative chosen + taken_weight p is_negative other
    ≤ added_weight p is_negative other + taken_weight p is_negative chosen

-- A component is odd for the shifted defects if and only if it is for the others, since each edge has both ends in it or
-- none.
abbrev pub ShiftedFirstOdd : Type 0
ShiftedFirstOdd = (p : Problem) (is_negative : ℕ → Bool) (r : Option ℕ)
    → (IsFirstOdd p r → IsFirstOdd (shifted_problem p is_negative) r) × (IsFirstOdd (shifted_problem p is_negative) r → IsFirstOdd p r)

-- So is a closed set.
abbrev pub ShiftedNoOddClosed : Type 0
ShiftedNoOddClosed = (p : Problem) (is_negative : ℕ → Bool)
    → (HasNoOddClosed p → HasNoOddClosed (shifted_problem p is_negative))
    × (HasNoOddClosed (shifted_problem p is_negative) → HasNoOddClosed p)
