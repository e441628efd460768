-- One more seat.
use Rattle.std.proofs.Common.{ℕ, ◌≡◌, ◌+◌, ◌-◌, suc, List, [], ◌∷◌, ◌++◌, map, sym, ap, ◌∙◌, arith}
use Rattle.std.proofs.lemmas.List.{map-append}
use Rattle.fb_slots.specs.Numbers.{numbers_down}

pub next_number : {S : Type 0} (f : S → ℕ) (w n m : ℕ) (xs ys : List S) (x : S)
    → map f xs ≡ numbers_down w n → ys ≡ xs ++ x ∷ [] → f x ≡ w - n → m ≡ n + 1
    → map f ys ≡ numbers_down w m
next_number f w n m xs ys x before more is one =
    let s : m ≡ suc n = omega (arith, one) in
    ap (map f) more
    ∙ (map-append f xs (x ∷ []) ∙ ((λ i. before i ++ is i ∷ []) ∙ ap (numbers_down w) (sym s)))
