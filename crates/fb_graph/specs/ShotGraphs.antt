-- The graph as one shot sees it: some edges weigh otherwise than in the graph itself, as an edge that a loss was heralded
-- for, or one whose error rate has drifted.
use Rattle.std.specs.Prelude.{ℕ, ◌+◌, ◌==◌, if◌then◌else◌, List, [], ◌∷◌, length, filter, Option, ℤ, pos, unsigned_abs}
use Rattle.std.specs.Int.{is_negative}
use Rattle.std.specs.List.{range_with_len}
use Rattle.fb_graph.specs.Problem.{Problem, Flips}
use Rattle.fb_graph.specs.Components.{IsFirstOdd}
use Rattle.fb_graph.specs.Limits.{DecodingGraph, ShotValue, problem_of, signed_weight}
use Rattle.fb_graph.specs.declared.parts.Edge.{Edge}

-- what the changes give for edge k, with its sign, if they give anything, else `weight`
abbrev pub weight_by : List (ℕ × ℤ) → ℕ → ℤ → ℤ
weight_by [] k weight = weight
weight_by (change ∷ changes) k weight = if change.0 == k then change.1 else weight_by changes k weight

-- the edges, of which the first is edge k, with the changed weights, without their signs
abbrev pub changed_from : List (ℕ × ℤ) → ℕ → List Edge → List Edge
changed_from changes k [] = []
changed_from changes k (e ∷ es) =
    record e { weight = unsigned_abs (weight_by changes k (pos e.weight)) } ∷ changed_from changes (k + 1) es

-- the edges with the changed weights, without their signs
abbrev pub changed_edges : List (ℕ × ℤ) → List Edge → List Edge
changed_edges [] edges = edges
changed_edges (change ∷ changes) edges = changed_from (change ∷ changes) 0 edges

-- the edges of the graph that weigh less than 0 by the changes, rising
abbrev pub changed_negatives : List (ℕ × ℤ) → DecodingGraph → List ℕ
changed_negatives [] g = g.negatives
changed_negatives (change ∷ changes) g =
    filter (λ k. is_negative (weight_by (change ∷ changes) k (signed_weight g k))) (range_with_len 0 (length g.edges))

-- the graph with the weights of this shot
abbrev pub shot_graph : DecodingGraph → ShotValue → DecodingGraph
shot_graph g shot =
    record g { edges = changed_edges shot.changes g.edges; negatives = changed_negatives shot.changes g }

-- The shot as it was measured: the graph with its weights, without their signs, and its defects. Which edge sets are
-- corrections, and whether there is one, is said of this problem.
abbrev pub shot_problem : DecodingGraph → ShotValue → Problem
shot_problem g shot = problem_of (shot_graph g shot) shot

-- Whether a shot has a correction doesn't depend on weights: its first odd component is the same.
abbrev pub SameFirstOdd : Type 0
SameFirstOdd = (g : DecodingGraph) (shot : ShotValue) (v : Option ℕ)
    → (IsFirstOdd (problem_of g shot) v → IsFirstOdd (shot_problem g shot) v)
    × (IsFirstOdd (shot_problem g shot) v → IsFirstOdd (problem_of g shot) v)

-- Nor does it depend on weights which edge sets are corrections.
abbrev pub SameFlips : Type 0
SameFlips = (g : DecodingGraph) (shot : ShotValue) (chosen : List ℕ)
    → (Flips (problem_of g shot) chosen → Flips (shot_problem g shot) chosen)
    × (Flips (shot_problem g shot) chosen → Flips (problem_of g shot) chosen)
