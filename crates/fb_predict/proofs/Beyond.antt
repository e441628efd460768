-- Lists of which none has an edge that isn't below their count.
use Rattle.std.specs.Prelude.{Some, None}
use Rattle.std.proofs.Common.{◌≡◌, ℕ, zero, suc, ◌+◌, ◌<◌, Bool, false, nat_le, List, [], ◌∷◌, length, get_or, map, All, refl, sym, ◌∙◌, inl, inr, arith}
use Rattle.std.proofs.lemmas.Bool.{cases_Bool, or_parts, leb-false}
use Rattle.std.proofs.lemmas.List.Elements.{All-nil, All-cons}
use Rattle.fb_predict.specs.ObservableText.{first_where, is_beyond}

-- where no list passes, a list at a place doesn't
pub none_where : {V : Type 0} (f : V → List ℕ) (passes : List ℕ → Bool) (start i : ℕ) (lists : List V) (d : V) → first_where passes start (map f lists) ≡ None → i < length lists → passes (f (get_or lists i d)) ≡ false
none_where f passes start i [] d e lt = absurd (omega arith)
none_where f passes start i (v ∷ lists) d e lt = elim (cases_Bool (passes (f v))) [
  | inl h ↦ absurd (let some = e in let found : first_where passes start (map f (v ∷ lists)) ≡ Some start = rw h refl in cc)
  | inr h ↦ at f passes lists v d i (λ k less. none_where f passes (start + 1) k lists d (sym (rw h refl) ∙ e) less) h lt
]
  where
    at : {V : Type 0} (f : V → List ℕ) (passes : List ℕ → Bool) (lists : List V) (v d : V) (i : ℕ) → ((k : ℕ) → k < length lists → passes (f (get_or lists k d)) ≡ false) → passes (f v) ≡ false → i < length (v ∷ lists)
        → passes (f (get_or (v ∷ lists) i d)) ≡ false
    at f passes lists v d zero later h lt = h
    at f passes lists v d (suc k) later h lt = later k (omega arith)

pub not_beyond : (n : ℕ) (list : List ℕ) → is_beyond n list ≡ false → All (λ e. e < n) list
not_beyond n [] h = All-nil (λ e. e < n)
not_beyond n (e ∷ list) h =
    let o = or_parts (nat_le n e) (is_beyond n list) h in
    All-cons (λ e. e < n) e list (omega (arith, leb-false n e o.0)) (not_beyond n list o.1)
