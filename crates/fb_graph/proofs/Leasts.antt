-- The least number that passes a test.
use Rattle.std.proofs.Common.{ℕ, zero, suc, ◌+◌, ◌<◌, ◌≡◌, Bool, true, false, cond, find, is_none, Some, None, refl, sym, ap, ◌∙◌, subst, arith, inl, inr, ◌⊎◌}
use Rattle.std.specs.List.{range_with_len}
use Rattle.std.proofs.lemmas.Bool.{both_ways, cases_eq, cond-true, cond-false}
use Rattle.fb_graph.specs.Leasts.{least}

none_from : (a n : ℕ) (test : ℕ → Bool) → ((k : ℕ) → k < n → test (a + k) ≡ false)
    → find test (range_with_len a n) ≡ None
none_from a zero test none = refl
none_from a (suc n) test none =
    cond-false (test a) _ _ (subst (λ k. test k ≡ false) (omega arith) (none 0 (omega arith)))
    ∙ none_from (a + 1) n test (λ k less. subst (λ j. test j ≡ false) (omega arith) (none (suc k) (omega arith)))

pub least_none : (n : ℕ) (test : ℕ → Bool) → ((k : ℕ) → k < n → test k ≡ false) → least n test ≡ None
least_none n test none = none_from 0 n test (λ k less. subst (λ j. test j ≡ false) (omega arith) (none k less))

some_from : (a n i : ℕ) (test : ℕ → Bool) → i < n → ((k : ℕ) → k < i → test (a + k) ≡ false) → test (a + i) ≡ true
    → find test (range_with_len a n) ≡ Some (a + i)
some_from a zero i test less none here = absurd (omega arith)
some_from a (suc n) zero test less none here =
    let same : a + 0 ≡ a = omega arith in
    cond-true (test a) _ _ (subst (λ k. test k ≡ true) same here) ∙ ap Some (sym same)
some_from a (suc n) (suc i) test less none here =
    cond-false (test a) _ _ (subst (λ k. test k ≡ false) (omega arith) (none 0 (omega arith)))
    ∙ some_from (a + 1) n i test (omega arith)
    (λ k less_k. subst (λ j. test j ≡ false) (omega arith) (none (suc k) (omega arith)))
    (subst (λ j. test j ≡ true) (omega arith) here)
    ∙ ap Some (omega arith)

pub least_some : (n i : ℕ) (test : ℕ → Bool) → i < n → ((k : ℕ) → k < i → test k ≡ false) → test i ≡ true
    → least n test ≡ Some i
least_some n i test less none here =
    some_from 0 n i test less (λ k less_k. subst (λ j. test j ≡ false) (omega arith) (none k less_k))
    (subst (λ j. test j ≡ true) (omega arith) here)
    ∙ ap Some (omega arith)

-- one more number that fails
pub none_more : (i : ℕ) (test : ℕ → Bool) → ((k : ℕ) → k < i → test k ≡ false) → test i ≡ false
    → (k : ℕ) → k < i + 1 → test k ≡ false
none_more i test none here k less = step (cases_eq k i)
  where
    step : (k ≡ i) ⊎ (k ≡ i → ⊥) → test k ≡ false
    step (inl same) = subst (λ j. test j ≡ false) (sym same) here
    step (inr other) = none k (omega arith)

agree_from : (a n : ℕ) (p q : ℕ → Bool) → ((k : ℕ) → k < n → p (a + k) ≡ q (a + k))
    → find p (range_with_len a n) ≡ find q (range_with_len a n)
agree_from a zero p q same = refl
agree_from a (suc n) p q same =
    choice (p a) (q a) (subst (λ k. p k ≡ q k) (omega arith) (same 0 (omega arith)))
    (agree_from (a + 1) n p q (λ k less. subst (λ j. p j ≡ q j) (omega arith) (same (suc k) (omega arith))))
  where
    choice : (b c : Bool) → b ≡ c → find p (range_with_len (a + 1) n) ≡ find q (range_with_len (a + 1) n)
        → cond b (Some a) (find p (range_with_len (a + 1) n)) ≡ cond c (Some a) (find q (range_with_len (a + 1) n))
    choice b c e rest = rw (e, rest) refl

pub least_agree : (n : ℕ) (p q : ℕ → Bool) → ((k : ℕ) → k < n → p k ≡ q k) → least n p ≡ least n q
least_agree n p q same = agree_from 0 n p q (λ k less. subst (λ j. p j ≡ q j) (omega arith) (same k less))

failed_from : (a n : ℕ) (test : ℕ → Bool) → find test (range_with_len a n) ≡ None → (k : ℕ) → k < n → test (a + k) ≡ false
failed_from a zero test none k less = absurd (omega arith)
failed_from a (suc n) test none k less = step k (first (test a) none) (λ rest j. failed_from (a + 1) n test rest j) less
  where
    first : (b : Bool) → cond b (Some a) (find test (range_with_len (a + 1) n)) ≡ None
        → (b ≡ false) × (find test (range_with_len (a + 1) n) ≡ None)
    first true e = absurd (both_ways false refl (ap is_none e))
    first false e = (refl, e)

    step : (k : ℕ) → (test a ≡ false) × (find test (range_with_len (a + 1) n) ≡ None)
        → (find test (range_with_len (a + 1) n) ≡ None → (j : ℕ) → j < n → test (a + 1 + j) ≡ false)
        → k < suc n → test (a + k) ≡ false
    step zero parts onward less_k = subst (λ j. test j ≡ false) (omega arith) parts.0
    step (suc j) parts onward less_k = subst (λ i. test i ≡ false) (omega arith) (onward parts.1 j (omega arith))

-- where no number passes, each fails
pub least_failed : (n : ℕ) (test : ℕ → Bool) → least n test ≡ None → (k : ℕ) → k < n → test k ≡ false
least_failed n test none k less = subst (λ j. test j ≡ false) (omega arith) (failed_from 0 n test none k less)
