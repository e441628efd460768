-- Two rising lists merged, where both of two equal numbers are left out.
use Rattle.std.proofs.Common.{ℕ, ◌≡◌, ◌<◌, Bool, List, [], ◌∷◌, ◌++◌, append-nil, append_assoc, refl, sym, ap, ◌∙◌, subst, inl, inr, ◌⊎◌}
use Rattle.std.specs.List.Sorted.{IsStrictlyIncreasing}
use Rattle.fb_graph.specs.Parity.{differ, is_odd_count}
use Rattle.fb_graph.proofs.ParitySums.{differ-false, differ_assoc, differ_self, differ_swap, false-differ, odd-append}
use Rattle.fb_half.specs.InternalDifferences.{AreCancelling}
use Rattle.fb_half.proofs.RisingUnions.{rising_between, rising_without}

-- nothing yet
pub uncancelled : (xs ys : List ℕ) → IsStrictlyIncreasing xs → IsStrictlyIncreasing ys → AreCancelling xs ys [] xs ys
uncancelled xs ys first second = record { first_rises = first; second_rises = second; parity = λ test. refl }

-- a pair that goes
gone : (d b f s : Bool) → differ (differ d f) s ≡ differ (differ d (differ b f)) (differ b s)
gone d b f s =
    differ_assoc d f s
    ∙ (ap (differ d)
    (sym (false-differ (differ f s)) ∙ (ap (λ z. differ z (differ f s)) (sym (differ_self b)) ∙ differ_swap b b f s))
    ∙ sym (differ_assoc d (differ b f) (differ b s)))

module _ (xs ys done first second : List ℕ) where
  -- the lower number of the first list goes on
  pub first_kept : (x y : ℕ) → x < y → AreCancelling xs ys done (x ∷ first) (y ∷ second) → AreCancelling xs ys (done ++ x ∷ []) first (y ∷ second)
  first_kept x y less m = record {
    first_rises = subst IsStrictlyIncreasing (sym (append_assoc done (x ∷ []) first)) m.first_rises;
    second_rises =
        subst IsStrictlyIncreasing (sym (append_assoc done (x ∷ []) (y ∷ second)))
        (rising_between done x y first second less m.first_rises m.second_rises);
    parity = λ test.
        ap (λ l. differ (is_odd_count test l) (is_odd_count test (y ∷ second))) (append_assoc done (x ∷ []) first) ∙ m.parity test;
  }

  -- or that of the second
  pub second_kept : (x y : ℕ) → y < x → AreCancelling xs ys done (x ∷ first) (y ∷ second) → AreCancelling xs ys (done ++ y ∷ []) (x ∷ first) second
  second_kept x y less m = record {
    first_rises =
        subst IsStrictlyIncreasing (sym (append_assoc done (y ∷ []) (x ∷ first)))
        (rising_between done y x second first less m.second_rises m.first_rises);
    second_rises = subst IsStrictlyIncreasing (sym (append_assoc done (y ∷ []) second)) m.second_rises;
    parity = λ test.
        let d = is_odd_count test done in
        let f = is_odd_count test (x ∷ first) in
        let s = is_odd_count test second in
        ap (λ b. differ b s)
        (odd-append test (done ++ y ∷ []) (x ∷ first)
        ∙ ap (λ b. differ b f) (odd-append test done (y ∷ []) ∙ ap (differ d) (differ-false (test y))))
        ∙ (differ_assoc (differ d (test y)) f s
        ∙ (differ_swap d (test y) f s
        ∙ (ap (λ b. differ b (is_odd_count test (y ∷ second))) (sym (odd-append test done (x ∷ first))) ∙ m.parity test)));
  }

  -- equal numbers are left out
  pub both_dropped : (x y : ℕ) → x ≡ y → AreCancelling xs ys done (x ∷ first) (y ∷ second) → AreCancelling xs ys done first second
  both_dropped x y same m = record {
    first_rises = rising_without done x first m.first_rises;
    second_rises = rising_without done y second m.second_rises;
    parity = λ test.
        let d = is_odd_count test done in
        let f = is_odd_count test first in
        let s = is_odd_count test second in
        ap (λ b. differ b s) (odd-append test done first)
        ∙ (gone d (test x) f s
        ∙ (ap (λ z. differ (differ d (differ (test x) f)) (differ (test z) s)) same
        ∙ (ap (λ b. differ b (is_odd_count test (y ∷ second))) (sym (odd-append test done (x ∷ first))) ∙ m.parity test)));
  }

  -- where one of them has nothing left, the other one's rest ends the list
  pub cancelled_rises : ((first ≡ []) ⊎ (second ≡ [])) → AreCancelling xs ys done first second → IsStrictlyIncreasing ((done ++ first) ++ second)
  cancelled_rises (inl none) m =
      subst (λ l. IsStrictlyIncreasing ((done ++ l) ++ second)) (sym none)
      (subst (λ l. IsStrictlyIncreasing (l ++ second)) (sym (append-nil done)) m.second_rises)
  cancelled_rises (inr none) m =
      subst (λ l. IsStrictlyIncreasing ((done ++ first) ++ l)) (sym none)
      (subst IsStrictlyIncreasing (sym (append-nil (done ++ first))) m.first_rises)

  pub cancelled_parity : AreCancelling xs ys done first second → (test : ℕ → Bool) → is_odd_count test ((done ++ first) ++ second) ≡ is_odd_count test (xs ++ ys)
  cancelled_parity m test = odd-append test (done ++ first) second ∙ (m.parity test ∙ sym (odd-append test xs ys))
