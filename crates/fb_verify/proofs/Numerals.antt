-- Numbers as words of digits.
use Rattle.std.proofs.Common.{◌≡◌, ℕ, ◌+◌, ◌*◌, ◌-◌, ◌<◌, ◌≤◌, true, List, [], ◌∷◌, length, get_or, drop, None, refl, ◌∙◌, inl, inr, arith}
use Rattle.std.proofs.lemmas.Bool.{cases_Bool, le-ltb}
use Rattle.std.proofs.lemmas.List.{at_drop_more}
use Rattle.fb_verify.specs.Reports.{is_digit, number_from, below}

-- further digits don't make a number smaller
pub too_large : (bound n : ℕ) (digits : List ℕ) → bound ≤ n → below bound (number_from n digits) ≡ None
too_large bound n [] le = let large = le-ltb n bound le in rw large refl
too_large bound n (c ∷ digits) le = elim (cases_Bool (is_digit c)) [
  | inl digit ↦ rw digit (too_large bound (n * 10 + (c - 48)) digits (omega arith))
  | inr other ↦ rw other refl
]

-- a digit in the text at which the number is too large
pub too_large_at : (bound n i : ℕ) (text : List ℕ) → i < length text → is_digit (get_or text i 0) ≡ true → bound ≤ n * 10 + (get_or text i 0 - 48)
    → below bound (number_from n (drop i text)) ≡ None
too_large_at bound n i text lt digit le =
    at_drop_more (λ (rest : List ℕ). below bound (number_from n rest)) text i 0 lt
    ∙ rw digit (too_large bound (n * 10 + (get_or text i 0 - 48)) (drop (i + 1) text) le)
