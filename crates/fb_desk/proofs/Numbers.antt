-- Seats by the numbers of their workers.
use Rattle.std.proofs.Common.{ℕ, ◌≡◌, ◌<◌, ◌⊎◌, inl, inr, List, [], ◌∷◌, ◌++◌, length, get_or, sym, ap, subst, ◌∙◌, arith, length-append}
use Rattle.std.proofs.lemmas.List.{get_or_append_left}
use Rattle.std.proofs.Math.Nat.{eq-or-lt_of_le}
use Rattle.std.proofs.Math.Seq.{get_or-append_seam}
use Rattle.fb_desk.specs.Numbers.{AreNumbered}

module _ {A : Type 0} (number : A → ℕ) where
  pub numbered_none : AreNumbered number []
  numbered_none = λ k d less. absurd (omega (arith, less))

  -- one more, with the next number
  pub numbered_more : (xs now : List A) (x : A) → now ≡ xs ++ x ∷ [] → number x ≡ length xs → AreNumbered number xs → AreNumbered number now
  numbered_more xs now x is last each = subst (AreNumbered number) (sym is) all
    where
      at_end : (k : ℕ) (d : A) → k ≡ length xs → number (get_or (xs ++ x ∷ []) k d) ≡ k
      at_end k d end = ap (λ i. number (get_or (xs ++ x ∷ []) i d)) end ∙ (ap number (get_or-append_seam xs x [] d) ∙ (last ∙ sym end))

      all : AreNumbered number (xs ++ x ∷ [])
      all = λ k d less. step k d (eq-or-lt_of_le (omega (arith, less, length-append xs (x ∷ []))))
        where
          step : (k : ℕ) (d : A) → (k ≡ length xs) ⊎ (k < length xs) → number (get_or (xs ++ x ∷ []) k d) ≡ k
          step k d (inl end) = at_end k d end
          step k d (inr less) = ap number (get_or_append_left xs (x ∷ []) d k less) ∙ each k d less

  -- without the last one
  pub numbered_fewer : (xs all : List A) (x : A) → all ≡ xs ++ x ∷ [] → AreNumbered number all → AreNumbered number xs × (number x ≡ length xs)
  numbered_fewer xs all x is each = (
    (λ k d less. sym (ap number (get_or_append_left xs (x ∷ []) d k less)) ∙ them k d (omega (arith, less, length-append xs (x ∷ [])))),
    sym (ap number (get_or-append_seam xs x [] x)) ∙ them (length xs) x (omega (arith, length-append xs (x ∷ []))),
  )
    where
      them : AreNumbered number (xs ++ x ∷ [])
      them = subst (AreNumbered number) is each
