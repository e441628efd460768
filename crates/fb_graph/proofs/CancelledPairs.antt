-- Pairs of equal numbers cancel: what is left has the parities of the whole.
use Rattle.std.proofs.Common.{ℕ, ◌+◌, ◌-◌, ◌%◌, ◌<◌, ◌≤◌, ◌≡◌, ◌≢◌, ◌==◌, Bool, true, false, cond, List, [], ◌∷◌, ◌++◌, length, get_or, set, take, All, sum_by, refl, sym, ap, ◌∙◌, subst, inl, inr, ◌⊎◌, arith, length-append, get_or-set_other}
use Rattle.std.proofs.Math.ListN.{get_or-append}
use Rattle.std.proofs.lemmas.Bool.{eqb-true, eq-eqb, ne_eqb, cases_lt, cases_eq}
use Rattle.std.proofs.lemmas.List.{take_more, take_more_set, length-take-le, get_or-take, get_or_default, get_or-append_right}
use Rattle.std.proofs.lemmas.List.Sums.{sum_by-cons, sum_by_push}
use Rattle.std.proofs.lemmas.List.Sorted.{sum_by-IsPermutation}
use Rattle.std.specs.List.Sorted.{IsNonDecreasing, IsPermutation, IsStrictlyIncreasing}
use Rattle.fb_graph.specs.Parity.{differ, is_odd_count, is_in}
use Rattle.fb_graph.specs.InternalCancelledPairs.{CancelsTo}
use Rattle.fb_graph.proofs.ParitySums.{differ_assoc, differ_self, differ-false, false-differ, odd-append}
use Rattle.fb_graph.proofs.Sets.{odd_equal, member_of_odd, distinct_from_rising, is_in_at, is_in-All}

-- the parity of a number
abbrev is_odd : ℕ → Bool
is_odd n = n % 2 == 1

is_odd-more : (n : ℕ) → differ true (is_odd n) ≡ is_odd (1 + n)
is_odd-more n = step (cases_eq (n % 2) 1)
  where
    step : (n % 2 ≡ 1) ⊎ (n % 2 ≡ 1 → ⊥) → differ true (is_odd n) ≡ is_odd (1 + n)
    step (inl odd) =
        ap (differ true) (eq-eqb (n % 2) 1 odd) ∙ sym (ne_eqb ((1 + n) % 2) 1 (λ e. absurd (omega arith)))
    step (inr even) =
        ap (differ true) (ne_eqb (n % 2) 1 even) ∙ sym (eq-eqb ((1 + n) % 2) 1 (omega arith))

-- an odd number of elements pass if and only if their number is odd
odd-as_sum : {X : Type 0} (test : X → Bool) (xs : List X)
    → is_odd_count test xs ≡ is_odd (sum_by (λ x. cond (test x) 1 0) xs)
odd-as_sum test [] = refl
odd-as_sum {X = X} test (x ∷ xs) = step (test x) refl (odd-as_sum test xs)
  where
    part : X → ℕ
    part y = cond (test y) 1 0

    step : (b : Bool) → test x ≡ b → is_odd_count test xs ≡ is_odd (sum_by part xs)
        → differ (test x) (is_odd_count test xs) ≡ is_odd (sum_by part (x ∷ xs))
    step true e ih =
        ap (λ b. differ b (is_odd_count test xs)) e
        ∙ (ap (differ true) ih
        ∙ (is_odd-more (sum_by part xs)
        ∙ ap is_odd (sym (sum_by-cons part x xs ∙ ap (λ b. cond {A = ℕ} b 1 0 + sum_by part xs) e))))
    step false e ih =
        let same : sum_by part (x ∷ xs) ≡ sum_by part xs =
        omega (arith, sum_by-cons part x xs, ap (λ b. cond {A = ℕ} b 1 0) e) in
        ap (λ b. differ b (is_odd_count test xs)) e
        ∙ (false-differ (is_odd_count test xs) ∙ (ih ∙ ap is_odd (sym same)))

-- a list and its permutation have equal parities
pub odd-IsPermutation : {X : Type 0} (test : X → Bool) (xs ys : List X) → IsPermutation xs ys
    → is_odd_count test ys ≡ is_odd_count test xs
odd-IsPermutation test xs ys moved =
    odd-as_sum test ys
    ∙ (ap is_odd (sum_by-IsPermutation (λ x. cond (test x) 1 0) xs ys moved) ∙ sym (odd-as_sum test xs))

-- what is left has stood in the whole
pub cancelled-inside : (xs ks : List ℕ) → CancelsTo xs ks → (v : ℕ) → is_in ks v ≡ true → is_in xs v ≡ true
cancelled-inside xs ks left v within =
    let (u, within, same) =
    member_of_odd (λ u. u == v) xs
    (sym (left.parity (λ u. u == v)) ∙ (odd_equal ks v (distinct_from_rising ks left.rising) ∙ within)) in
    subst (λ w. is_in xs w ≡ true) (eqb-true u v same) within

-- the front of a rising list
rising-front : (ks : List ℕ) (x : ℕ) → IsStrictlyIncreasing (ks ++ x ∷ []) → IsStrictlyIncreasing ks
rising-front ks x rising k less =
    let first = get_or-append ks (x ∷ []) 0 k (omega arith) in
    let second = get_or-append ks (x ∷ []) 0 (k + 1) less in
    omega (arith, rising k (omega (arith, length-append ks (x ∷ []))))

rising_push : (ks : List ℕ) (x : ℕ) → IsStrictlyIncreasing ks → (0 < length ks → get_or ks (length ks - 1) 0 < x)
    → IsStrictlyIncreasing (ks ++ x ∷ [])
rising_push ks x rising last k less = step (cases_lt (k + 1) (length ks))
  where
    bound : k + 1 < length ks + 1
    bound = omega (arith, length-append ks (x ∷ []))

    step : (k + 1 < length ks) ⊎ (length ks ≤ k + 1) → get_or (ks ++ x ∷ []) k 0 < get_or (ks ++ x ∷ []) (k + 1) 0
    step (inl below) =
        let first = get_or-append ks (x ∷ []) 0 k (omega arith) in
        let second = get_or-append ks (x ∷ []) 0 (k + 1) below in
        omega (arith, rising k below)
    step (inr end) =
        let first = get_or-append ks (x ∷ []) 0 k (omega (arith, bound)) in
        let second = get_or-append_right ks (x ∷ []) (length ks) (k + 1) 0 refl end in
        let zero : k + 1 - length ks ≡ 0 = omega (arith, bound) in
        let here : get_or (x ∷ []) (k + 1 - length ks) 0 ≡ x = ap (λ n. get_or (x ∷ []) n 0) zero in
        let same : length ks - 1 ≡ k = omega (arith, bound) in
        let before : get_or ks k 0 < x =
        subst (λ n. get_or ks n 0 < x) same (last (omega (arith, bound))) in
        omega arith

-- the next number is the last one that is left: both go
cancels_pop : (xs ks : List ℕ) (x : ℕ) → CancelsTo xs (ks ++ x ∷ []) → CancelsTo (xs ++ x ∷ []) ks
cancels_pop xs ks x left = record {
  rising = rising-front ks x left.rising;
  parity = λ test.
      let t = is_odd_count test (x ∷ []) in
      sym (differ-false (is_odd_count test ks))
      ∙ (ap (differ (is_odd_count test ks)) (sym (differ_self t))
      ∙ (sym (differ_assoc (is_odd_count test ks) t t)
      ∙ (ap (λ b. differ b t) (sym (odd-append test ks (x ∷ [])) ∙ left.parity test)
      ∙ sym (odd-append test xs (x ∷ [])))));
  weight = λ f. omega (arith, left.weight f, sum_by_push f ks x, sum_by_push f xs x);
}

-- the next number is above those that are left: it is left too
cancels_push : (xs ks : List ℕ) (x : ℕ) → (0 < length ks → get_or ks (length ks - 1) 0 < x) → CancelsTo xs ks
    → CancelsTo (xs ++ x ∷ []) (ks ++ x ∷ [])
cancels_push xs ks x last left = record {
  rising = rising_push ks x left.rising last;
  parity = λ test.
      odd-append test ks (x ∷ [])
      ∙ (ap (λ b. differ b (is_odd_count test (x ∷ []))) (left.parity test) ∙ sym (odd-append test xs (x ∷ [])));
  weight = λ f. omega (arith, left.weight f, sum_by_push f ks x, sum_by_push f xs x);
}

-- The loop has read the first i numbers of `xs`, and the first k of `ys` are left of them. From i on `ys` is as `xs`.
pub record IsPartCancelled (xs ys : List ℕ) (i k : ℕ) : Type 0 where
  pub behind : k ≤ i
  pub unread : (n : ℕ) → i ≤ n → get_or ys n 0 ≡ get_or xs n 0
  pub cancelled : CancelsTo (take i xs) (take k ys)

-- the number at i is the last one that is left: both go
pub part_cancelled-back : (xs ys : List ℕ) (i k : ℕ) → length ys ≡ length xs → i < length xs → 0 < k
    → get_or ys (k - 1) 0 ≡ get_or ys i 0 → IsPartCancelled xs ys i k → IsPartCancelled xs ys (i + 1) (k - 1)
part_cancelled-back xs ys i k long less some same part = record {
  behind = omega (arith, part.behind);
  unread = λ n more. part.unread n (omega arith);
  cancelled =
      let e : k - 1 + 1 ≡ k = omega arith in
      let top : take k ys ≡ take (k - 1) ys ++ get_or xs i 0 ∷ [] =
      ap (λ n. take n ys) (sym e)
      ∙ (take_more ys (k - 1) 0 (omega (arith, part.behind))
      ∙ ap (λ v. take (k - 1) ys ++ v ∷ []) (same ∙ part.unread i (omega arith))) in
      subst (λ l. CancelsTo l (take (k - 1) ys)) (sym (take_more xs i 0 less))
      (cancels_pop (take i xs) (take (k - 1) ys) (get_or xs i 0) (subst (CancelsTo (take i xs)) top part.cancelled));
}

-- it is another one: it is left too
pub part_cancelled-onward : (xs ys : List ℕ) (i k : ℕ) → IsNonDecreasing xs → length ys ≡ length xs → i < length xs
    → (0 < k → get_or ys (k - 1) 0 ≢ get_or ys i 0) → IsPartCancelled xs ys i k
    → IsPartCancelled xs (set ys k (get_or ys i 0)) (i + 1) (k + 1)
part_cancelled-onward xs ys i k sorted long less other part = record {
  behind = omega (arith, part.behind);
  unread = λ n more.
      let ne : n ≢ k = omega (arith, part.behind) in
      get_or-set_other ys k n (get_or ys i 0) 0 ne ∙ part.unread n (omega arith);
  cancelled =
      subst (λ l. CancelsTo l (take (k + 1) (set ys k x))) (sym (take_more xs i 0 less))
      (subst (CancelsTo (take i xs ++ get_or xs i 0 ∷ [])) (sym (take_more_set ys k x (omega (arith, part.behind))))
      (subst (λ v. CancelsTo (take i xs ++ v ∷ []) (take k ys ++ x ∷ [])) here
      (cancels_push (take i xs) (take k ys) x last part.cancelled)));
}
  where
    x : ℕ
    x = get_or ys i 0

    here : x ≡ get_or xs i 0
    here = part.unread i (omega arith)

    front : length (take k ys) ≡ k
    front = length-take-le k ys (omega (arith, part.behind))

    read : All (λ v. v ≤ x) (take i xs)
    read j d below =
        let before : j < i = omega (arith, length-take-le i xs (omega arith)) in
        let e = get_or-take i xs j d before in
        omega (arith, sorted j i d (omega arith) less, get_or_default xs i d 0 less, here)

    last : 0 < length (take k ys) → get_or (take k ys) (length (take k ys) - 1) 0 < x
    last some =
        let at : length (take k ys) - 1 ≡ k - 1 = omega (arith, front) in
        let e : get_or (take k ys) (length (take k ys) - 1) 0 ≡ get_or ys (k - 1) 0 =
        ap (λ n. get_or (take k ys) n 0) at ∙ get_or-take k ys (k - 1) 0 (omega (arith, front)) in
        let below : get_or (take k ys) (length (take k ys) - 1) 0 ≤ x =
        is_in-All (λ v. v ≤ x) (take i xs) read _
        (cancelled-inside (take i xs) (take k ys) part.cancelled _ (is_in_at (take k ys) _ 0 (omega (arith, some)))) in
        let differs : get_or ys (k - 1) 0 ≡ x → ⊥ = other (omega (arith, front)) in
        omega arith

-- what is left of a sorted list is left of each list that it was sorted from
pub cancels-IsPermutation : (xs ys ks : List ℕ) → IsPermutation xs ys → CancelsTo ys ks → CancelsTo xs ks
cancels-IsPermutation xs ys ks moved left = record {
  rising = left.rising;
  parity = λ test. left.parity test ∙ odd-IsPermutation test xs ys moved;
  weight = λ f. omega (arith, left.weight f, sum_by-IsPermutation f xs ys moved);
}
