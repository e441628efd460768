-- The defects of a shot, sorted.
use Rattle.std.proofs.Common.{ℕ, ℤ, zero, suc, ◌+◌, ◌<◌, ◌≤◌, ◌≡◌, ◌==◌, ◌⊎◌, inl, inr, true, nat_lt, not, List, [], ◌∷◌, length, get_or, All, count_by, refl, sym, ap, arith}
use Rattle.std.specs.List.{range_with_len}
use Rattle.std.specs.List.Sorted.{IsPermutation, IsSorted, IsStrictlyIncreasing}
use Rattle.std.specs.Ordering.{nat_cmp}
use Rattle.std.proofs.lemmas.Bool.{eq-eqb, ltb-true, and_parts, cases_eq}
use Rattle.std.proofs.lemmas.List.FromFn.{length-range_with_len}
use Rattle.std.proofs.lemmas.List.Sorted.{All-permutation, IsNonDecreasingBy-from_sort, sum_by-IsPermutation}
use Rattle.std.proofs.lemmas.List.Sums.{sum_by-cons}
use Rattle.fb_graph.specs.Parity.{is_in}
use Rattle.fb_graph.specs.Certificate.{AreDistinct}
use Rattle.fb_graph.specs.Limits.{AreChanges, DecodingGraph, IsGraph, IsShot, is_real_in, most_vertices, turned_by}
use Rattle.fb_graph.specs.Counts.{as_count}
use Rattle.fb_graph.proofs.Sets.{count_equal-le, distinct_from_rising, is_in-All, is_in-range, length-le_from_within, range_rises}

count_at : (vs : List ℕ) (k v : ℕ) → k < length vs → get_or vs k 0 ≡ v → 1 ≤ count_by (λ u. u == v) vs
count_at [] k v less here = absurd (omega arith)
count_at (w ∷ vs) zero v less here =
    omega (arith, sum_by-cons (λ u. as_count (u == v)) w vs, ap as_count (eq-eqb w v here))
count_at (w ∷ vs) (suc k) v less here =
    omega (arith, sum_by-cons (λ u. as_count (u == v)) w vs, count_at vs k v (omega arith) here)

count_twice : (vs : List ℕ) (k v : ℕ) → k + 1 < length vs → get_or vs k 0 ≡ v → get_or vs (k + 1) 0 ≡ v
    → 2 ≤ count_by (λ u. u == v) vs
count_twice [] k v less here next = absurd (omega arith)
count_twice (w ∷ vs) zero v less here next =
    omega (
      arith,
      sum_by-cons (λ u. as_count (u == v)) w vs,
      ap as_count (eq-eqb w v here),
      count_at vs 0 v (omega arith) next,
    )
count_twice (w ∷ vs) (suc k) v less here next =
    let e : suc k + 1 ≡ suc (k + 1) = omega arith in
    omega (
      arith,
      sum_by-cons (λ u. as_count (u == v)) w vs,
      count_twice vs k v (omega arith) here (rw e at next),
    )

-- sorted numbers that were distinct rise strictly
pub rising_from_sort : (vs ws : List ℕ) → AreDistinct vs → IsPermutation vs ws → IsSorted nat_cmp ws
    → IsStrictlyIncreasing ws
rising_from_sort vs ws distinct permuted sorted k less =
    step (cases_eq (get_or ws k 0) (get_or ws (k + 1) 0))
    (IsNonDecreasingBy-from_sort (λ v. v) ws sorted k (k + 1) 0 (omega arith) less)
  where
    step : (get_or ws k 0 ≡ get_or ws (k + 1) 0) ⊎ (get_or ws k 0 ≡ get_or ws (k + 1) 0 → ⊥)
        → get_or ws k 0 ≤ get_or ws (k + 1) 0 → get_or ws k 0 < get_or ws (k + 1) 0
    step (inl same) low =
        absurd (omega (
          arith,
          count_twice ws k (get_or ws k 0) less refl (sym same),
          sum_by-IsPermutation (λ u. as_count (u == get_or ws k 0)) vs ws permuted,
          count_equal-le vs (get_or ws k 0) distinct,
        ))
    step (inr other) low = omega (arith, other)

-- a shot has at most as many defects as its graph has vertices
pub length-shot : (g : DecodingGraph) (defects : List ℕ) → IsGraph g → IsStrictlyIncreasing defects
    → All (λ v. is_real_in g v ≡ true) defects → length defects ≤ most_vertices
length-shot g defects graph rising real =
    omega (
      arith,
      graph.vertices,
      length-range_with_len 0 g.vertices,
      length-le_from_within defects (range_with_len 0 g.vertices) (distinct_from_rising defects rising)
          (distinct_from_rising (range_with_len 0 g.vertices) (range_rises 0 g.vertices))
          (λ v within. is_in-range g.vertices v (below v (is_in-All (λ u. is_real_in g u ≡ true) defects real v within))),
    )
  where
    below : (v : ℕ) → is_real_in g v ≡ true → v < g.vertices
    below v real = ltb-true v g.vertices (and_parts (nat_lt v g.vertices) (not (is_in g.virtuals v)) real).0

pub shot_from_sort : (g : DecodingGraph) (given defects : List ℕ) → AreDistinct given
    → All (λ v. is_real_in g v ≡ true) given → IsPermutation given defects → IsSorted nat_cmp defects
    → (changes : List (ℕ × ℤ)) → AreChanges (length g.edges) changes
    → IsShot g (record { defects = defects; changes = changes; turned = turned_by g changes })
shot_from_sort g given defects distinct real permuted sorted changes are = record {
  rising = rising_from_sort given defects distinct permuted sorted;
  real = All-permutation (λ v. is_real_in g v ≡ true) given defects permuted real;
  changes = are;
  turned = refl;
}
