-- The entries of a shot as defects: real vertices up to the first entry that is none, none of them twice.
use Rattle.std.specs.Prelude.{nat_le, nat_lt, ◌==◌, ◌&&◌, not, All, count_by}
use Rattle.std.proofs.Common.{◌≡◌, ℕ, ◌<◌, ◌≤◌, Bool, true, false, ◌||◌, eqb, List, [], ◌∷◌, ◌++◌, length, Some, None, Ok, Err, refl, sym, ap, subst, ◌∙◌, inl, inr, append_assoc, append-nil, arith}
use Rattle.std.specs.Ordering.{nat_cmp}
use Rattle.std.specs.List.Sorted.{IsPermutation, IsSorted, IsStrictlyIncreasing}
use Rattle.std.proofs.lemmas.Bool.{cases_Bool, cases_lt, eq-eqb, ne_eqb, leb-false, lt-ltb}
use Rattle.std.proofs.lemmas.List.Elements.{All-cons}
use Rattle.std.proofs.lemmas.List.Folds.{list_any-append}
use Rattle.std.proofs.lemmas.List.Sums.{sum_by-cons}
use Rattle.std.proofs.lemmas.List.Sorted.{All-permutation, sum_by-IsPermutation, list_any-IsPermutation}
use Rattle.fb_graph.specs.Certificate.{AreDistinct}
use Rattle.fb_graph.specs.Limits.{DecodingGraph, IsShot, is_real_in, plain_shot}
use Rattle.fb_graph.specs.Parity.{is_in}
use Rattle.fb_graph.specs.Counts.{as_count}
use Rattle.fb_graph.proofs.Ranges.{filter-range_below, filter-range_rises, is_in-filter-range, not_in_below}
use Rattle.fb_graph.proofs.Sets.{count_equal-le, distinct_from_rising, is_in-cases, rising_same}
use Rattle.fb_graph.proofs.ShotGraphs.{plain_is_shot}
use Rattle.fb_graph.proofs.Shots.{rising_from_sort}
use Rattle.fb_shots_json.specs.declared.answer.Kind.{Kind}
use Rattle.fb_shots_json.specs.declared.answer.Kind.TheVariants.{DefectOutOfRange, DefectOnVirtual, DefectRepeated}
use Rattle.fb_shots_json.specs.TextJson.{defect_fault, defects_from, first_fault, unless, rising}
use Rattle.fb_shots_json.specs.InternalEntries.{vertex_fault, real_prefix}
use Rattle.fb_graph.proofs.Members.{AreDistinct_push}

-- ---- distinct numbers

before_one : (xs : List ℕ) (v : ℕ) (ys : List ℕ) → AreDistinct (xs ++ v ∷ ys) → is_in xs v ≡ false
before_one [] v ys d = refl
before_one (x ∷ xs) v ys d =
    let not_x : eqb x v ≡ false = ne_eqb x v (λ (e : x ≡ v). absurd (let held = list_any-append (λ (u : ℕ). eqb u x) xs (v ∷ ys) in let here = eq-eqb v x (sym e) in at_v (is_in xs x) (is_in ys x) (eqb v x) here (sym held ∙ d.0))) in
    rw (not_x, before_one xs v ys d.1) refl
  where
    at_v : (a b c : Bool) → c ≡ true → (a || (c || b)) ≡ false → ⊥
    at_v true b c t e = absurd cc
    at_v false b true t e = absurd cc
    at_v false b false t e = absurd cc

is_in_counts : (xs : List ℕ) (v : ℕ) → is_in xs v ≡ true → 1 ≤ count_by (λ u. u == v) xs
is_in_counts [] v e = absurd cc
is_in_counts (x ∷ xs) v e = elim (is_in-cases x xs v e) [
  | inl here ↦ omega (arith, sum_by-cons (λ u. as_count (u == v)) x xs, ap as_count (eq-eqb x v here))
  | inr later ↦ omega (arith, sum_by-cons (λ u. as_count (u == v)) x xs, is_in_counts xs v later)
]

distinct_from_counts : (xs : List ℕ) → ((v : ℕ) → count_by (λ u. u == v) xs ≤ 1) → AreDistinct xs
distinct_from_counts [] once = tt
distinct_from_counts (x ∷ xs) once = (
  elim (cases_Bool (is_in xs x)) [
    | inl held ↦ absurd (omega (arith, once x, sum_by-cons (λ u. as_count (u == x)) x xs, ap as_count (eq-eqb x x refl), is_in_counts xs x held))
    | inr none ↦ none
  ],
  distinct_from_counts xs (λ v. omega (arith, once v, sum_by-cons (λ u. as_count (u == v)) x xs)),
)

distinct_from_sorted : (xs sorted : List ℕ) → IsPermutation xs sorted → IsStrictlyIncreasing sorted → AreDistinct xs
distinct_from_sorted xs sorted same rises =
    distinct_from_counts xs (λ v. omega (arith, count_equal-le sorted v (distinct_from_rising sorted rises), sum_by-IsPermutation (λ u. as_count (u == v)) xs sorted same))

-- ---- entries, one by one

-- what an entry's fault is
data Judged (g : DecodingGraph) (before : List ℕ) (v : ℕ) : Type 0 where
  bad : (kind : Kind) → vertex_fault g v ≡ Some kind → defect_fault g before v ≡ Some kind → Judged g before v
  again : vertex_fault g v ≡ None → is_in before v ≡ true → defect_fault g before v ≡ Some DefectRepeated → Judged g before v
  good : vertex_fault g v ≡ None → is_in before v ≡ false → defect_fault g before v ≡ None → Judged g before v

judged : (g : DecodingGraph) (before : List ℕ) (v : ℕ) → Judged g before v
judged g before v = elim (cases_Bool (nat_le g.vertices v)) [
  | inl out ↦ bad DefectOutOfRange (rw out refl) (rw out refl)
  | inr within ↦ elim (cases_Bool (is_in g.virtuals v)) [
    | inl virtual ↦ bad DefectOnVirtual (rw (within, virtual) refl) (rw (within, virtual) refl)
    | inr real ↦ elim (cases_Bool (is_in before v)) [
      | inl held ↦ again (rw (within, real) refl) held (rw (within, real, held) refl)
      | inr none ↦ good (rw (within, real) refl) none (rw (within, real, none) refl)
    ]
  ]
]

-- where no real vertex stands twice before the first entry that is none
pub without_repeats : (g : DecodingGraph) (before vs : List ℕ) → AreDistinct (before ++ real_prefix g vs)
    → defects_from g before vs ≡ unless (first_fault (vertex_fault g) vs) (Ok (before ++ vs))
without_repeats g before [] d = ap (λ (l : List ℕ). Ok l) (sym (append-nil before))
without_repeats g before (v ∷ vs) d = elim (judged g before v) [
  | bad kind alone fault ↦ rw (alone, fault) refl
  | again alone held fault ↦ absurd (let prefix = rw alone at d in let none = before_one before v (real_prefix g vs) prefix in cc)
  | good alone none fault ↦
      let prefix : AreDistinct (before ++ v ∷ real_prefix g vs) = rw alone at d in
      let next : AreDistinct ((before ++ v ∷ []) ++ real_prefix g vs) = subst AreDistinct (sym (append_assoc before (v ∷ []) (real_prefix g vs))) prefix in
      rw (alone, fault)
      (without_repeats g (before ++ v ∷ []) vs next ∙ ap (λ (l : List ℕ). unless (first_fault (vertex_fault g) vs) (Ok l)) (append_assoc before (v ∷ []) vs))
]

-- where one does
pub with_repeats : (g : DecodingGraph) (before vs : List ℕ) → AreDistinct before → (AreDistinct (before ++ real_prefix g vs) → ⊥)
    → defects_from g before vs ≡ Err DefectRepeated
with_repeats g before [] d twice = absurd (twice (subst AreDistinct (sym (append-nil before)) d))
with_repeats g before (v ∷ vs) d twice = elim (judged g before v) [
  | bad kind alone fault ↦ absurd (let none = rw alone at twice in none (subst AreDistinct (sym (append-nil before)) d))
  | again alone held fault ↦ rw fault refl
  | good alone none fault ↦
      let more = rw alone at twice in
      rw fault
      (with_repeats g (before ++ v ∷ []) vs (AreDistinct_push before v d none) (λ (z : AreDistinct ((before ++ v ∷ []) ++ real_prefix g vs)). more (subst AreDistinct (append_assoc before (v ∷ []) (real_prefix g vs)) z)))
]

prefix_whole : (g : DecodingGraph) (vs : List ℕ) → first_fault (vertex_fault g) vs ≡ None → real_prefix g vs ≡ vs
prefix_whole g [] e = refl
prefix_whole g (v ∷ vs) e = elim (judged g [] v) [
  | bad kind alone fault ↦ absurd (let some = rw alone at e in cc)
  | again alone held fault ↦ absurd cc
  | good alone none fault ↦ rw alone (ap (λ (l : List ℕ). v ∷ l) (prefix_whole g vs (rw alone at e)))
]

prefix_below : (g : DecodingGraph) (vs : List ℕ) → All (λ v. v < g.vertices) (real_prefix g vs)
prefix_below g [] = λ k d lt. absurd (omega arith)
prefix_below g (v ∷ vs) = elim (cases_Bool (nat_le g.vertices v)) [
  | inl out ↦ rw out (λ k d lt. absurd (omega arith))
  | inr within ↦ elim (cases_Bool (is_in g.virtuals v)) [
    | inl virtual ↦ rw (within, virtual) (λ k d lt. absurd (omega arith))
    | inr real ↦ rw (within, real) (All-cons (λ u. u < g.vertices) v (real_prefix g vs) (leb-false g.vertices v within) (prefix_below g vs))
  ]
]

prefix_real : (g : DecodingGraph) (vs : List ℕ) → All (λ v. is_real_in g v ≡ true) (real_prefix g vs)
prefix_real g [] = λ k d lt. absurd (omega arith)
prefix_real g (v ∷ vs) = elim (cases_Bool (nat_le g.vertices v)) [
  | inl out ↦ rw out (λ k d lt. absurd (omega arith))
  | inr within ↦ elim (cases_Bool (is_in g.virtuals v)) [
    | inl virtual ↦ rw (within, virtual) (λ k d lt. absurd (omega arith))
    | inr real ↦
        let below : nat_lt v g.vertices ≡ true = lt-ltb v g.vertices (leb-false g.vertices v within) in
        let here : is_real_in g v ≡ true = ap (λ (b : Bool). nat_lt v g.vertices && not b) real ∙ ap (λ (b : Bool). b && true) below in
        rw (within, real) (All-cons (λ u. is_real_in g u ≡ true) v (real_prefix g vs) here (prefix_real g vs))
  ]
]

-- ---- the rising list

sorted_rises : (g : DecodingGraph) (listed sorted : List ℕ) → All (λ v. v < g.vertices) listed → IsPermutation listed sorted → IsStrictlyIncreasing sorted → sorted ≡ rising g listed
sorted_rises g listed sorted below permuted rises =
    rising_same sorted (rising g listed) rises (filter-range_rises (is_in listed) g.vertices) (λ v. elim (cases_lt v g.vertices) [
      | inl lt ↦ sym (list_any-IsPermutation (λ u. eqb u v) listed sorted permuted) ∙ sym (is_in-filter-range (is_in listed) g.vertices v lt)
      | inr ge ↦
          let all = All-permutation (λ (u : ℕ). u < g.vertices) listed sorted permuted below in
          let kept = filter-range_below (is_in listed) g.vertices in
          not_in_below sorted v (λ k d lt. omega (arith, all k d lt)) ∙ sym (not_in_below (rising g listed) v (λ k d lt. omega (arith, kept k d lt)))
    ])

-- ---- the whole list

pub defects_good : (g : DecodingGraph) (vs sorted : List ℕ) → first_fault (vertex_fault g) vs ≡ None → IsPermutation (real_prefix g vs) sorted → IsStrictlyIncreasing sorted
    → (defects_from g [] vs ≡ Ok vs) × (sorted ≡ rising g vs)
defects_good g vs sorted none permuted rises =
    let whole = prefix_whole g vs none in (
      without_repeats g [] vs (distinct_from_sorted (real_prefix g vs) sorted permuted rises) ∙ ap (λ o. unless o (Ok vs)) none,
      subst (λ (l : List ℕ). sorted ≡ rising g l) whole (sorted_rises g (real_prefix g vs) sorted (prefix_below g vs) permuted rises),
    )

pub defects_shot : (g : DecodingGraph) (vs sorted : List ℕ) → IsPermutation (real_prefix g vs) sorted → IsStrictlyIncreasing sorted → IsShot g (plain_shot sorted)
defects_shot g vs sorted permuted rises =
    plain_is_shot g sorted rises (All-permutation (λ v. is_real_in g v ≡ true) (real_prefix g vs) sorted permuted (prefix_real g vs))

pub defects_bad : (g : DecodingGraph) (vs sorted : List ℕ) (kind : Kind) → first_fault (vertex_fault g) vs ≡ Some kind → IsPermutation (real_prefix g vs) sorted → IsStrictlyIncreasing sorted
    → defects_from g [] vs ≡ Err kind
defects_bad g vs sorted kind some permuted rises =
    without_repeats g [] vs (distinct_from_sorted (real_prefix g vs) sorted permuted rises) ∙ ap (λ o. unless o (Ok vs)) some

pub defects_repeat : (g : DecodingGraph) (vs sorted : List ℕ) → IsPermutation (real_prefix g vs) sorted → IsSorted nat_cmp sorted → (IsStrictlyIncreasing sorted → ⊥)
    → defects_from g [] vs ≡ Err DefectRepeated
defects_repeat g vs sorted permuted ordered falls =
    with_repeats g [] vs tt (λ d. falls (rising_from_sort (real_prefix g vs) sorted d permuted ordered))
