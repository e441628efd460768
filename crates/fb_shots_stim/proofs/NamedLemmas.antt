-- Indices in words, marks of detectors, and their rising list.
use Rattle.std.specs.Prelude.{if◌then◌else◌, option_map, All}
use Rattle.std.proofs.Common.{◌≡◌, ◌≢◌, ℕ, zero, suc, ◌+◌, ◌-◌, ◌*◌, ◌<◌, ◌≤◌, min, Bool, true, false, ◌||◌, cond, eqb, List, [], ◌∷◌, ◌++◌, length, get_or, set, drop, Some, refl, sym, ap, subst, ◌∙◌, inl, inr, arith}
use Rattle.std.proofs.Math.Bool.{or-false}
use Rattle.std.specs.Ordering.{nat_cmp}
use Rattle.std.specs.List.{list_any, filter, range_with_len}
use Rattle.std.specs.List.Sorted.{IsPermutation, IsSorted, IsNonDecreasingBy}
use Rattle.std.proofs.lemmas.Bool.{cases_Bool, cases_eq, eq-eqb, ne_eqb, or_parts}
use Rattle.std.proofs.lemmas.List.{at_drop_more, length-set, get_or_default, get_or-set_same, get_or-set_other}
use Rattle.std.proofs.lemmas.List.Folds.{list_any-append}
use Rattle.std.proofs.lemmas.List.Elements.{All-push, All-head, All-tail}
use Rattle.std.proofs.lemmas.List.Sums.{sum_by-cons, sum_by_push}
use Rattle.std.proofs.lemmas.List.Sorted.{All-permutation, IsNonDecreasingBy-from_sort, sum_by-IsPermutation, list_any-IsPermutation}
use Rattle.fb_shots_stim.specs.NamedDetectors.{is_digit, number_from, rising}
use Rattle.fb_shots_stim.specs.InternalParts.{times, IsMarked}
use Rattle.fb_shots_stim.specs.InternalRises.{Rises}

-- ---- indices

-- from two numbers that are one up to the limit the digits go on to numbers that are
capped : (limit a b : ℕ) (digits : List ℕ) → min a limit ≡ min b limit → option_map (λ k. min k limit) (number_from a digits) ≡ option_map (λ k. min k limit) (number_from b digits)
capped limit a b [] h = ap (λ (k : ℕ). Some k) h
capped limit a b (c ∷ digits) h = elim (cases_Bool (is_digit c)) [
  | inl e ↦ rw e (capped limit (a * 10 + (c - 48)) (b * 10 + (c - 48)) digits (omega arith))
  | inr e ↦ rw e refl
]

digit_more : (value c : ℕ) (digits : List ℕ) → is_digit c ≡ true → number_from value (c ∷ digits) ≡ number_from (value * 10 + (c - 48)) digits
digit_more value c digits e = rw e refl

pub index_more : (limit value next i : ℕ) (digits : List ℕ) → i < length digits → is_digit (get_or digits i 0) ≡ true → next ≡ min (value * 10 + (get_or digits i 0 - 48)) limit
    → option_map (λ k. min k limit) (number_from next (drop (i + 1) digits)) ≡ option_map (λ k. min k limit) (number_from value (drop i digits))
index_more limit value next i digits within digit e =
    let c = get_or digits i 0 in
    capped limit next (value * 10 + (c - 48)) (drop (i + 1) digits) (omega arith)
    ∙ sym (ap (option_map (λ k. min k limit)) (at_drop_more (number_from value) digits i 0 within ∙ digit_more value c (drop (i + 1) digits) digit))

-- ---- marks

any_last : (k index : ℕ) (named : List ℕ) → list_any (eqb k) (named ++ index ∷ []) ≡ (list_any (eqb k) named || (eqb k index || false))
any_last k index named = list_any-append (eqb k) named (index ∷ [])

times_none : (k : ℕ) (named : List ℕ) → list_any (eqb k) named ≡ false → times k named ≡ 0
times_none k [] h = refl
times_none k (x ∷ named) h =
    let o = or_parts (eqb k x) (list_any (eqb k) named) h in
    sum_by-cons (λ (y : ℕ). if eqb k y then 1 else 0) x named ∙ rw (o.0, times_none k named o.1) refl

times_last : (k index : ℕ) (named : List ℕ) → times k (named ++ index ∷ []) ≡ times k named + (if eqb k index then 1 else 0)
times_last k index named = sum_by_push (λ (y : ℕ). if eqb k y then 1 else 0) named index

-- the marks are made, if they weren't
pub marked_made : (n : ℕ) (old new : List Bool) (named : List ℕ) → IsMarked n old named → length new ≡ n → (length old ≡ n → new ≡ old) → (length old ≢ n → (k : ℕ) → get_or new k false ≡ false) → IsMarked n new named
marked_made n old new named m size kept none = record {
  size = λ _. size;
  marked = λ k lt. elim (cases_eq (length old) n) [
    | inl e ↦ let same = kept e in ap (λ (l : List Bool). get_or l k false) same ∙ m.marked k (omega (arith, ap length same))
    | inr e ↦ none e k ∙ sym (ap (list_any (eqb k)) (nothing named (λ some. e (m.size some))))
  ];
  once = m.once;
  below = m.below;
}
  where
    nothing : (named : List ℕ) → (0 < length named → ⊥) → named ≡ []
    nothing [] h = refl
    nothing (x ∷ named) h = absurd (h (omega arith))

-- once the marks are made, the one at an index says whether it is named
pub named_as_marked : (n : ℕ) (new : List Bool) (named : List ℕ) (index : ℕ) (mark : Bool) → IsMarked n new named → length new ≡ n → index < n
    → mark ≡ get_or new index mark → list_any (eqb index) named ≡ mark
named_as_marked n new named index mark m size lt is =
    let within : index < length new = omega (arith, size) in
    sym (m.marked index within) ∙ (get_or_default new index false mark within ∙ sym is)

-- one more is named and marked
pub marked_more : (n : ℕ) (marks : List Bool) (named : List ℕ) (index : ℕ) → IsMarked n marks named → length marks ≡ n → index < n → list_any (eqb index) named ≡ false → IsMarked n (set marks index true) (named ++ index ∷ [])
marked_more n marks named index m size lt new = record {
  size = λ _. length-set marks index true ∙ size;
  marked = λ k below. elim (cases_eq k index) [
    | inl e ↦ subst (λ (j : ℕ). get_or (set marks index true) j false ≡ list_any (eqb j) (named ++ index ∷ [])) (sym e)
        (get_or-set_same marks index true false (omega arith) ∙ sym (any_last index index named ∙ rw (new, eq-eqb index index refl) refl))
    | inr e ↦ get_or-set_other marks index k true false e ∙ m.marked k (omega (arith, length-set marks index true))
        ∙ sym (any_last k index named ∙ rw (ne_eqb k index e) (or-false (list_any (eqb k) named)))
  ];
  once = λ k. elim (cases_eq k index) [
    | inl e ↦ let none : times k named ≡ 0 = times_none k named (subst (λ (j : ℕ). list_any (eqb j) named ≡ false) (sym e) new) in
        let one : times k (named ++ index ∷ []) ≡ times k named + 1 = times_last k index named ∙ ap (λ (b : Bool). times k named + (if b then 1 else 0)) (eq-eqb k index e) in
        omega arith
    | inr e ↦ let same : times k (named ++ index ∷ []) ≡ times k named + 0 = times_last k index named ∙ ap (λ (b : Bool). times k named + (if b then 1 else 0)) (ne_eqb k index e) in
        omega (arith, m.once k)
  ];
  below = All-push (λ (k : ℕ). k < n) named index m.below lt;
}

-- ---- the rising list

rises_above : (k low high : ℕ) (xs : List ℕ) → Rises low high xs → k < low → list_any (eqb k) xs ≡ false
rises_above k low high [] r lt = refl
rises_above k low high (x ∷ xs) r lt =
    let le : low ≤ x = r.0 in
    rw (ne_eqb k x (λ (e : k ≡ x). omega arith)) (rises_above k (x + 1) high xs r.2 (omega arith))

filter_range : (p q : ℕ → Bool) (a n : ℕ) → ((k : ℕ) → a ≤ k → p k ≡ q k) → filter p (range_with_len a n) ≡ filter q (range_with_len a n)
filter_range p q a zero h = refl
filter_range p q a (suc n) h =
    let rest = filter_range p q (a + 1) n (λ k le. h k (omega arith)) in
    ap (λ (b : Bool). cond b (a ∷ filter p (range_with_len (a + 1) n)) (filter p (range_with_len (a + 1) n))) (h a (omega arith))
    ∙ ap (λ (l : List ℕ). cond (q a) (a ∷ l) l) rest

pub filter_rises : (n low high : ℕ) (xs : List ℕ) → high ≡ low + n → Rises low high xs → filter (λ k. list_any (eqb k) xs) (range_with_len low n) ≡ xs
filter_rises zero low high [] e r = refl
filter_rises zero low high (x ∷ xs) e r = absurd (let a : low ≤ x = r.0 in let b : x < high = r.1 in omega arith)
filter_rises (suc n) low high [] e r = filter_rises n (low + 1) high [] (omega arith) tt
filter_rises (suc n) low high (x ∷ xs) e r = elim (cases_eq low x) [
  | inl same ↦
      let here : list_any (eqb low) (x ∷ xs) ≡ true = rw (eq-eqb low x same) refl in
      let later : (k : ℕ) → low + 1 ≤ k → list_any (eqb k) (x ∷ xs) ≡ list_any (eqb k) xs = λ k le. rw (ne_eqb k x (λ (z : k ≡ x). omega arith)) refl in
      ap (λ (b : Bool). cond b (low ∷ filter (λ k. list_any (eqb k) (x ∷ xs)) (range_with_len (low + 1) n)) (filter (λ k. list_any (eqb k) (x ∷ xs)) (range_with_len (low + 1) n))) here
      ∙ ap (λ (l : List ℕ). low ∷ l) (filter_range (λ k. list_any (eqb k) (x ∷ xs)) (λ k. list_any (eqb k) xs) (low + 1) n later)
      ∙ ap (λ (l : List ℕ). low ∷ l) (filter_rises n (low + 1) high xs (omega arith) (subst (λ (m : ℕ). Rises (m + 1) high xs) (sym same) r.2))
      ∙ ap (λ (m : ℕ). m ∷ xs) same
  | inr other ↦
      let le : low ≤ x = r.0 in
      let here : list_any (eqb low) (x ∷ xs) ≡ false = rw (ne_eqb low x other) (rises_above low (x + 1) high xs r.2 (omega arith)) in
      ap (λ (b : Bool). cond b (low ∷ filter (λ k. list_any (eqb k) (x ∷ xs)) (range_with_len (low + 1) n)) (filter (λ k. list_any (eqb k) (x ∷ xs)) (range_with_len (low + 1) n))) here
      ∙ filter_rises n (low + 1) high (x ∷ xs) (omega arith) (omega arith, r.1, r.2)
]

rises_sorted : (low high : ℕ) (xs : List ℕ) → ((d : ℕ) → 0 < length xs → low ≤ get_or xs 0 d) → IsNonDecreasingBy (λ x. x) xs → ((k : ℕ) → times k xs ≤ 1) → All (λ k. k < high) xs → Rises low high xs
rises_sorted low high [] first up once below = tt
rises_sorted low high (x ∷ xs) first up once below = (
  first 0 (omega arith),
  All-head (λ (k : ℕ). k < high) x xs below,
  rises_sorted (x + 1) high xs (second x xs up once) (λ i j d le lt. up (suc i) (suc j) d (omega arith) (omega arith))
      (λ k. omega (arith, once k, sum_by-cons (λ (y : ℕ). if eqb k y then 1 else 0) x xs)) (All-tail (λ (k : ℕ). k < high) x xs below),
)
  where
    second : (x : ℕ) (xs : List ℕ) → IsNonDecreasingBy (λ y. y) (x ∷ xs) → ((k : ℕ) → times k (x ∷ xs) ≤ 1) → (d : ℕ) → 0 < length xs → x + 1 ≤ get_or xs 0 d
    second x [] up once d some = absurd (omega arith)
    second x (y ∷ xs) up once d some =
        let le : x ≤ y = up 0 1 d (omega arith) (omega arith) in
        elim (cases_eq x y) [
          | inr other ↦ omega arith
          | inl same ↦ absurd (
              let one : times x (x ∷ y ∷ xs) ≡ 1 + times x (y ∷ xs) = sum_by-cons (λ (z : ℕ). if eqb x z then 1 else 0) x (y ∷ xs) ∙ ap (λ (b : Bool). (if b then 1 else 0) + times x (y ∷ xs)) (eq-eqb x x refl) in
              let two : times x (y ∷ xs) ≡ 1 + times x xs = sum_by-cons (λ (z : ℕ). if eqb x z then 1 else 0) y xs ∙ ap (λ (b : Bool). (if b then 1 else 0) + times x xs) (eq-eqb x y same) in
              omega (arith, once x))
        ]

filter_same : (p q : ℕ → Bool) (xs : List ℕ) → ((k : ℕ) → p k ≡ q k) → filter p xs ≡ filter q xs
filter_same p q [] h = refl
filter_same p q (x ∷ xs) h =
    ap (λ (b : Bool). cond b (x ∷ filter p xs) (filter p xs)) (h x) ∙ ap (λ (l : List ℕ). cond (q x) (x ∷ l) l) (filter_same p q xs h)

-- the sorted list of what is named, each once, is the rising one
pub sorted_rising : (n : ℕ) (marks : List Bool) (named sorted : List ℕ) → IsMarked n marks named → IsPermutation named sorted → IsSorted nat_cmp sorted → sorted ≡ rising n named
sorted_rising n marks named sorted m same up =
    let once : (k : ℕ) → times k sorted ≤ 1 = λ k. omega (arith, m.once k, sum_by-IsPermutation (λ (y : ℕ). if eqb k y then 1 else 0) named sorted same) in
    let r : Rises 0 n sorted = rises_sorted 0 n sorted (λ d some. omega arith) (IsNonDecreasingBy-from_sort (λ (x : ℕ). x) sorted up) once (All-permutation (λ (k : ℕ). k < n) named sorted same m.below) in
    sym (filter_rises n 0 n sorted (omega arith) r)
    ∙ filter_same (λ k. list_any (eqb k) sorted) (λ k. list_any (eqb k) named) (range_with_len 0 n) (λ k. sym (list_any-IsPermutation (eqb k) named sorted same))
