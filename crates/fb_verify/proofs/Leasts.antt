-- The first number of a rising list that passes a test is the least one.
use Rattle.std.proofs.Common.{ℕ, ◌<◌, ◌≤◌, ◌≡◌, ◌&&◌, ◌⊎◌, inl, inr, not, nat_lt, cond, Bool, true, false, List, [], ◌∷◌, length, get_or, All, Option, Some, None, Result, Ok, Err, zero, suc, ◌≢◌, le_refl, refl, sym, ap, ◌∙◌, arith}
use Rattle.std.specs.List.{find, range_with_len}
use Rattle.std.specs.Result.{MatchResult, is_ok}
use Rattle.std.specs.Ordering.{nat_cmp}
use Rattle.std.specs.List.Sorted.{IsBinarySearchResult, IsStrictlyIncreasing}
use Rattle.std.proofs.lemmas.Bool.{and_parts, cases_lt, false≢true, both_ways, false_from_ne_true, lt-ltb, ltb-true, and_from}
use Rattle.std.proofs.lemmas.List.{get_or_default}
use Rattle.std.proofs.lemmas.List.Elements.{All-cons, All-nil, All-head, All-tail}
use Rattle.std.proofs.lemmas.List.Sorted.{searched}
use Rattle.fb_graph.specs.Parity.{is_in}
use Rattle.fb_graph.proofs.Sets.{is_in-All, is_in-cases, is_in-head, is_in-tail, is_in-range, is_in_at, range_below, range_rises, rising-tail, rising_above}
use Rattle.fb_verify.specs.Verdicts.{first_beyond}
use Rattle.fb_graph.specs.Leasts.{least}

-- what a look-up gives is the least number of the list that passes
abbrev pub IsLeast : (ℕ → Bool) → List ℕ → Option ℕ → Type 0
IsLeast p xs None = (u : ℕ) → is_in xs u ≡ true → p u ≡ false
IsLeast p xs (Some v) = (is_in xs v ≡ true) × (p v ≡ true) × ((u : ℕ) → is_in xs u ≡ true → u < v → p u ≡ false)

pub find_is_least : (p : ℕ → Bool) (xs : List ℕ) → IsStrictlyIncreasing xs → IsLeast p xs (find p xs)
find_is_least p [] rising = λ u within. absurd (false≢true within)
find_is_least p (x ∷ xs) rising = step (p x) refl (find p xs) (find_is_least p xs (rising-tail x xs rising))
  where
    step : (b : Bool) → p x ≡ b → (r : Option ℕ) → IsLeast p xs r → IsLeast p (x ∷ xs) (cond b (Some x) r)
    step true e r ih = (is_in-head x xs, e, λ u within less. low u less (is_in-cases x xs u within))
      where
        low : (u : ℕ) → u < x → (x ≡ u) ⊎ (is_in xs u ≡ true) → p u ≡ false
        low u less (inl same) = absurd (omega arith)
        low u less (inr later) = let above = rising_above x xs rising u later in absurd (omega arith)
    step false e None ih = λ u within. elim (is_in-cases x xs u within) [ inl same ↦ ap p (sym same) ∙ e | inr later ↦ ih u later ]
    step false e (Some v) ih = (is_in-tail x xs v ih.0, ih.1, λ u within less. elim (is_in-cases x xs u within) [ inl same ↦ ap p (sym same) ∙ e | inr later ↦ ih.2 u later less ])

-- two tests that the same numbers of two lists pass have the same least one
pub same_least : (p q : ℕ → Bool) (xs ys : List ℕ) (a b : Option ℕ) → IsLeast p xs a → IsLeast q ys b
    → ((v : ℕ) → (is_in xs v && p v) ≡ (is_in ys v && q v)) → a ≡ b
same_least p q xs ys a b first second same = step a b first second
  where
    there : (v : ℕ) → is_in xs v ≡ true → p v ≡ true → (is_in ys v ≡ true) × (q v ≡ true)
    there v e f = and_parts (is_in ys v) (q v) (sym (same v) ∙ and_from (is_in xs v) (p v) e f)

    back : (v : ℕ) → is_in ys v ≡ true → q v ≡ true → (is_in xs v ≡ true) × (p v ≡ true)
    back v e f = and_parts (is_in xs v) (p v) (same v ∙ and_from (is_in ys v) (q v) e f)

    order : (u v : ℕ) → (u < v → ⊥) → (v < u → ⊥) → u ≡ v
    order u v above below = elim (cases_lt u v) [ inl less ↦ absurd (above less) | inr more ↦ elim (cases_lt v u) [ inl less ↦ absurd (below less) | inr low ↦ omega arith ] ]

    step : (a b : Option ℕ) → IsLeast p xs a → IsLeast q ys b → a ≡ b
    step None None f g = refl
    step None (Some v) f g = let h = back v g.0 g.1 in absurd (both_ways (p v) (f v h.0) h.1)
    step (Some u) None f g = let h = there u f.0 f.1 in absurd (both_ways (q u) (g u h.0) h.1)
    step (Some u) (Some v) f g =
        let h = there u f.0 f.1 in
        let k = back v g.0 g.1 in
        ap Some (order u v (λ less. both_ways (q u) (g.2 u h.0 less) h.1) (λ less. both_ways (p v) (f.2 v k.0 less) k.1))

pub least_is_least : (n : ℕ) (q : ℕ → Bool) → IsLeast q (range_with_len 0 n) (least n q)
least_is_least n q = find_is_least q (range_with_len 0 n) (range_rises 0 n)

pub is_in-range-below : (n v : ℕ) → is_in (range_with_len 0 n) v ≡ true → v < n
is_in-range-below n v within = is_in-All (λ u. u < n) (range_with_len 0 n) (range_below n) v within

-- the list holds just the numbers below n, as far as the tests see
pub least-from_rising : (p q : ℕ → Bool) (xs : List ℕ) (n : ℕ) → IsStrictlyIncreasing xs → All (λ v. v < n) xs
    → ((v : ℕ) → v < n → (is_in xs v && p v) ≡ q v) → find p xs ≡ least n q
least-from_rising p q xs n rising below same =
    same_least p q xs (range_with_len 0 n) (find p xs) (least n q) (find_is_least p xs rising) (least_is_least n q)
    (λ v. elim (cases_lt v n) [ inl less ↦ inside v less | inr more ↦ outside v more ])
  where
    inside : (v : ℕ) → v < n → (is_in xs v && p v) ≡ (is_in (range_with_len 0 n) v && q v)
    inside v less = same v less ∙ sym (ap (λ b. b && q v) (is_in-range n v less))

    outside : (v : ℕ) → n ≤ v → (is_in xs v && p v) ≡ (is_in (range_with_len 0 n) v && q v)
    outside v more =
        ap (λ b. b && p v) (false_from_ne_true (is_in xs v) (λ h. let less : v < n = is_in-All (λ u. u < n) xs below v h in absurd (omega arith)))
        ∙ sym (ap (λ b. b && q v) (false_from_ne_true (is_in (range_with_len 0 n) v) (λ h. let less = is_in-range-below n v h in absurd (omega arith))))

-- no number is at or above the bound
pub below-from_beyond : (bound : ℕ) (ks : List ℕ) → first_beyond bound ks ≡ None → All (λ k. k < bound) ks
below-from_beyond bound [] none = All-nil _
below-from_beyond bound (k ∷ ks) none = step (nat_lt k bound) refl none (below-from_beyond bound ks)
  where
    step : (b : Bool) → nat_lt k bound ≡ b → cond (not b) (Some k) (first_beyond bound ks) ≡ None
        → (first_beyond bound ks ≡ None → All (λ j. j < bound) ks) → All (λ j. j < bound) (k ∷ ks)
    step true e f ih = All-cons (λ j. j < bound) k ks (ltb-true k bound e) (ih f)
    step false e f ih = cc

pub beyond-from_below : (bound : ℕ) (ks : List ℕ) → All (λ k. k < bound) ks → first_beyond bound ks ≡ None
beyond-from_below bound [] all = refl
beyond-from_below bound (k ∷ ks) all = rw (lt-ltb k bound (All-head (λ j. j < bound) k ks all)) (beyond-from_below bound ks (All-tail (λ j. j < bound) k ks all))

pub rising-climbs : (xs : List ℕ) → IsStrictlyIncreasing xs → (i j : ℕ) → i ≤ j → j < length xs
    → get_or xs i 0 ≤ get_or xs j 0
rising-climbs [] rising i j order less = absurd (omega arith)
rising-climbs (x ∷ xs) rising zero zero order less = le_refl x
rising-climbs (x ∷ xs) rising (suc i) zero order less = absurd (omega arith)
rising-climbs (x ∷ xs) rising zero (suc j) order less =
    let above = rising_above x xs rising (get_or xs j 0) (is_in_at xs j 0 (omega arith)) in omega arith
rising-climbs (x ∷ xs) rising (suc i) (suc j) order less =
    rising-climbs xs (rising-tail x xs rising) i j (omega arith) (omega arith)

-- a binary search of a rising list finds what is in it
pub is_in-searched : (xs : List ℕ) (x : ℕ) (r : Result ℕ ℕ) → IsStrictlyIncreasing xs
    → IsBinarySearchResult (λ y. nat_cmp y x) xs r → is_ok r ≡ is_in xs x
is_in-searched xs x r rising result = step r (searched xs x r result (rising-climbs xs rising))
  where
    step : (r : Result ℕ ℕ) → MatchResult r (λ i. (i < length xs) × (get_or xs i 0 ≡ x)) (λ i. (i ≤ length xs) × ((k : ℕ) → k < i → get_or xs k 0 < x) × ((k : ℕ) → i ≤ k → k < length xs → x < get_or xs k 0)) → is_ok r ≡ is_in xs x
    step (Ok i) h = sym (ap (is_in xs) (sym h.1) ∙ is_in_at xs i 0 h.0)
    step (Err i) h = sym (false_from_ne_true (is_in xs x) (λ within. is_in-All (λ u. u ≢ x) xs (λ k d less. other k d less) x within refl))
      where
        other : (k d : ℕ) → k < length xs → get_or xs k d ≢ x
        other k d less same = elim (cases_lt k i) [ inl low ↦ (let f = h.1 k low in absurd (omega (arith, get_or_default xs k d 0 less))) | inr high ↦ (let f = h.2 k high less in absurd (omega (arith, get_or_default xs k d 0 less))) ]

pub ruleset bounds = (below-from_beyond)
