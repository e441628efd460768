-- Weights of either sign. All edges that weigh less than 0 are chosen first. What remains is a problem without negative
-- weights, whose defects are shifted by the ends of these edges (Edmonds and Johnson 1973): each of its edges weighs
-- what it does without its sign. A correction of it, taken together with the negative edges, is one of the shot.
use Rattle.std.specs.Prelude.{ℕ, ◌≡◌, Bool, List, [], ◌∷◌, filter, if◌then◌else◌, Option, ℤ, pos, unsigned_abs, ◌+ℤ◌, ◌≤ℤ◌}
use Rattle.std.specs.Int.{is_negative}
use Rattle.std.specs.List.Sorted.{IsStrictlyIncreasing}
use Rattle.fb_graph.specs.Parity.{differ, is_odd_count, is_in}
use Rattle.fb_graph.specs.Problem.{Problem, IsEdgeSet, Flips, edge_at, touches}
use Rattle.fb_graph.specs.Certificate.{IsPacking, total_value}
use Rattle.fb_graph.specs.Components.{IsFirstOdd}
use Rattle.fb_graph.specs.Limits.{DecodingGraph, ShotValue, IsGraph, IsShot, detectors_of, odd_ends, plain_shot, problem_of, signed_weight, turned_edges}
use Rattle.fb_graph.specs.ShotGraphs.{shot_graph, shot_problem}
use Rattle.fb_graph.specs.declared.parts.Cut.{Cut}

-- the sum of the listed edges' weights, with their signs
abbrev pub signed_sum : (ℕ → ℤ) → List ℕ → ℤ
signed_sum weight [] = pos 0
signed_sum weight (k ∷ ks) = weight k +ℤ signed_sum weight ks

-- what the chosen edges weigh for the shot, with their signs
abbrev pub signed_weight_of : DecodingGraph → ShotValue → List ℕ → ℤ
signed_weight_of g shot chosen = signed_sum (signed_weight (shot_graph g shot)) chosen

-- the sum of the negative weights
abbrev pub base_of : DecodingGraph → ShotValue → ℤ
base_of g shot = signed_weight_of g shot (shot_graph g shot).negatives

-- how far a weight is below 0
abbrev pub shortfall : ℤ → ℕ
shortfall weight = if is_negative weight then unsigned_abs weight else 0

-- an odd number of the listed edges of the graph end at the vertex
abbrev pub is_odd_end : DecodingGraph → List ℕ → ℕ → Bool
is_odd_end g ks v = is_odd_count (λ k. touches v (edge_at g.edges k)) ks

-- the real vertices at which the negative edges and the defect, if there is one, are together odd in number, rising
abbrev pub shifted_defects : DecodingGraph → ShotValue → List ℕ
shifted_defects g shot =
    filter (λ v. differ (is_in shot.defects v) (is_odd_end (shot_graph g shot) (shot_graph g shot).negatives v))
    (detectors_of g)

-- The shot that is solved, over the graph with the shot's weights: it changes none of them.
abbrev pub shifted_shot : DecodingGraph → ShotValue → ShotValue
shifted_shot g shot = plain_shot (shifted_defects g shot)

-- What is solved for a shot: weights without their signs, and shifted defects. Cuts are cuts of this problem.
abbrev pub solved_problem : DecodingGraph → ShotValue → Problem
solved_problem g shot = problem_of (shot_graph g shot) (shifted_shot g shot)

-- The graph with a shot's weights is a graph, and the shot that is solved is one of it.
abbrev pub ShotGraphIsGraph : Type 0
ShotGraphIsGraph = (g : DecodingGraph) (shot : ShotValue) → IsGraph g → IsShot g shot
    → IsGraph (shot_graph g shot) × IsShot (shot_graph g shot) (shifted_shot g shot)

-- Shifted defects are made from the shot's own ones, the odd ends of the graph's negative edges and those of the edges
-- whose sign the shot turns: a vertex is shifted if it is an odd number of times in these three lists.
abbrev pub ShiftedByTurns : Type 0
ShiftedByTurns = (g : DecodingGraph) (shot : ShotValue) → IsGraph g → IsShot g shot → (v : ℕ)
    → is_in (shifted_defects g shot) v
    ≡ differ (is_in shot.defects v) (differ (is_in (odd_ends g g.negatives) v) (is_in shot.turned v))

-- An edge is negative for a shot if it is in the graph or the shot turns its sign, but not both.
abbrev pub NegativesByTurns : Type 0
NegativesByTurns = (g : DecodingGraph) (shot : ShotValue) → IsGraph g → IsShot g shot → (k : ℕ)
    → is_in (shot_graph g shot).negatives k ≡ differ (is_in g.negatives k) (is_in (turned_edges g shot.changes) k)

-- Signed weak duality (Edmonds and Johnson 1973): feasible odd cuts of what is solved add up to at most what any
-- correction weighs above the sum of the negative weights.
abbrev pub ShotDuality : Type 0
ShotDuality = (g : DecodingGraph) (shot : ShotValue) (cuts : List Cut) (chosen : List ℕ) → IsGraph g → IsShot g shot
    → IsPacking (solved_problem g shot) cuts → IsEdgeSet (shot_problem g shot) chosen
    → Flips (shot_problem g shot) chosen
    → (base_of g shot +ℤ pos (total_value cuts)) ≤ℤ signed_weight_of g shot chosen

-- Shifting the defects leaves the first odd component, since each edge has both ends in a component or none.
abbrev pub SameShiftedOdd : Type 0
SameShiftedOdd = (g : DecodingGraph) (shot : ShotValue) (v : Option ℕ) → IsGraph g → IsShot g shot
    → (IsFirstOdd (shot_problem g shot) v → IsFirstOdd (solved_problem g shot) v)
    × (IsFirstOdd (solved_problem g shot) v → IsFirstOdd (shot_problem g shot) v)

-- the edges that are either in the list or negative for the shot, but not both: strictly rising
pub record IsUnshifted (g : DecodingGraph) (shot : ShotValue) (chosen unshifted : List ℕ) : Type 0 where
  pub rising : IsStrictlyIncreasing unshifted
  pub each : (k : ℕ) → is_in unshifted k ≡ differ (is_in chosen k) (is_in (shot_graph g shot).negatives k)
