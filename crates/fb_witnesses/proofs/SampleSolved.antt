-- The row of the triangle's blossom, and edges by their parities.
use Rattle.std.proofs.Common.{ℕ, ◌≡◌, ◌==◌, inl, inr, Bool, true, false, [], ◌∷◌, refl, arith}
use Rattle.std.specs.List.Sorted.{IsStrictlyIncreasing}
use Rattle.std.proofs.lemmas.List.Elements.{All-from_recursion}
use Rattle.fb_graph.specs.Parity.{differ, is_odd_count}
use Rattle.fb_graph.specs.Problem.{edge_at, touches}
use Rattle.fb_graph.specs.Components.{IsWalkBy}
use Rattle.fb_graph.specs.Laws.{IsPart, IsSolved}
use Rattle.fb_laws.specs.Works.{positive_cuts}
use Rattle.fb_laws.proofs.SolvedRows.{best_of_whole}
use Rattle.fb_witnesses.specs.ResolvedWitnesses.{closed_nodes, printed_triangle}
use Rattle.fb_witnesses.specs.InternalSamples.{triangle}
use Rattle.fb_witnesses.specs.SolvedWitnesses.{BestWitness, OddWitness, shared_links, whole_triangle}
use Rattle.fb_witnesses.proofs.SampleOpenedParts.{part_witness}
use Rattle.fb_witnesses.proofs.SampleResolutions.{resolved_witness}
use Rattle.fb_witnesses.proofs.SampleStates.{of_three}
use Rattle.fb_witnesses.proofs.ByCases.{below_by_cases}

chosen_rise : IsStrictlyIncreasing (0 ∷ 3 ∷ [])
chosen_rise = resolved_witness.10.edge_set.rising

twice_gone : (a b c : Bool) → differ a (differ b false) ≡ differ a (differ c (differ c (differ b false)))
twice_gone true true true = refl
twice_gone true true false = refl
twice_gone true false true = refl
twice_gone true false false = refl
twice_gone false true true = refl
twice_gone false true false = refl
twice_gone false false true = refl
twice_gone false false false = refl

pub swapped : (a b : Bool) → differ a (differ b false) ≡ differ b (differ a false)
swapped true true = refl
swapped true false = refl
swapped false true = refl
swapped false false = refl

pub odd_witness : OddWitness
odd_witness = (
  chosen_rise,
  below_by_cases 4 (0 ∷ 3 ∷ []) refl,
  λ k. twice_gone (0 == k) (3 == k) (2 == k),
  refl,
  All-from_recursion (λ l. IsWalkBy triangle l.walk l.from l.to) shared_links (
    (0, omega arith, inr (refl, refl), (2, omega arith, inl (refl, refl), refl)),
    ((2, omega arith, inl (refl, refl), (3, omega arith, inl (refl, refl), refl)), tt),
  ),
  refl,
  refl,
)

solved : IsSolved triangle (positive_cuts closed_nodes) (0 ∷ 3 ∷ [])
solved = record {
  edge_set = resolved_witness.10.edge_set;
  flips =
      of_three (λ v. is_odd_count (λ k. touches v (edge_at triangle.edges k)) (0 ∷ 3 ∷ []) ≡ triangle.is_defect v)
      0 1 2 refl refl refl;
  weighs = refl;
}

is_part : IsPart triangle whole_triangle
is_part = record {
  edges = refl;
  real = of_three (λ v. whole_triangle.is_real v ≡ true) 0 1 2 refl refl refl;
  defects = of_three (λ v. triangle.is_defect v ≡ whole_triangle.is_defect v) 0 1 2 refl refl refl;
}

same_real : (v : ℕ) → whole_triangle.is_real v ≡ true → triangle.is_real v ≡ true
same_real = of_three (λ v. triangle.is_real v ≡ true) 2 1 0 refl refl refl

pub best_witness : BestWitness
best_witness = (
  resolved_witness.0,
  resolved_witness.4,
  solved,
  resolved_witness.8,
  resolved_witness.9,
  resolved_witness.10,
  is_part,
  same_real,
  part_witness.0,
  refl,
  chosen_rise,
  λ k. swapped (0 == k) (3 == k),
  best_of_whole triangle whole_triangle (0 ∷ 3 ∷ []) 12 printed_triangle is_part same_real resolved_witness.10,
)
