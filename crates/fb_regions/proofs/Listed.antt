-- A list passed over from its last number to its first.
use Rattle.std.proofs.Common.{ℕ, ◌≡◌, ◌+◌, ◌<◌, ◌==◌, ◌||◌, ◌⊎◌, inl, inr, Bool, cond, not, true, false, List, [], ◌∷◌, ◌++◌, length, take, drop, get_or, reverse, Option, Some, None, refl, sym, ap, ◌∙◌, subst, append_assoc}
use Rattle.std.specs.List.{last_or}
use Rattle.std.proofs.lemmas.Bool.{both_ways, eq-eqb, eqb-true, or_left, or_parts, or_right}
use Rattle.std.proofs.lemmas.List.{drop_more, reverse-append, take-append-drop}
use Rattle.std.proofs.lemmas.List.Sums.{take_while-cons}
use Rattle.fb_graph.specs.Certificate.{AreDistinct}
use Rattle.fb_graph.specs.Parity.{is_in}
use Rattle.fb_graph.proofs.Members.{is_in-append}
use Rattle.fb_regions.specs.Listed.{back_from, listed_before}

pub last_push : (o : Option ℕ) (xs : List ℕ) (v : ℕ) → last_or o (xs ++ v ∷ []) ≡ Some v
last_push o [] v = refl
last_push o (x ∷ xs) v = last_push (Some x) xs v

pub not_empty : (xs ys : List ℕ) (v : ℕ) → ¬ ([] ≡ xs ++ v ∷ ys)
not_empty [] ys v e = cc
not_empty (x ∷ xs) ys v e = cc

-- a list is empty, or ends with some number
pub record Ends (xs : List ℕ) : Type 0 where
  pub front : List ℕ
  pub last : ℕ
  pub is : xs ≡ front ++ last ∷ []

pub ended : (xs : List ℕ) → (xs ≡ []) ⊎ Ends xs
ended [] = inl refl
ended (x ∷ xs) = by (ended xs)
  where
    by : (xs ≡ []) ⊎ Ends xs → (x ∷ xs ≡ []) ⊎ Ends (x ∷ xs)
    by (inl none) = inr (record { front = []; last = x; is = ap (λ l. x ∷ l) none })
    by (inr e) = inr (record { front = x ∷ e.front; last = e.last; is = ap (λ l. x ∷ l) e.is })

-- a number of a list of different ones isn't among those before it
pub distinct_before : (xs ys : List ℕ) (v : ℕ) → AreDistinct (xs ++ v ∷ ys) → is_in xs v ≡ false
distinct_before [] ys v distinct = refl
distinct_before (x ∷ xs) ys v distinct = by (x == v) refl (distinct_before xs ys v distinct.1)
  where
    by : (b : Bool) → (x == v) ≡ b → is_in xs v ≡ false → is_in (x ∷ xs) v ≡ false
    by true e rest =
        absurd (both_ways (is_in (xs ++ v ∷ ys) x) distinct.0
        (is_in-append xs (v ∷ ys) x
        ∙ or_right (is_in xs x) (is_in (v ∷ ys) x) (or_left (v == x) (is_in ys x) (eq-eqb v x (sym (eqb-true x v e))))))
    by false e rest = ap (λ b. b || is_in xs v) e ∙ rest

pub not_before : (xs : List ℕ) (i : ℕ) → AreDistinct xs → i < length xs → is_in (take i xs) (get_or xs i 0) ≡ false
not_before xs i distinct less =
    distinct_before (take i xs) (drop (i + 1) xs) (get_or xs i 0)
    (subst AreDistinct (sym (take-append-drop i xs) ∙ ap (λ l. take i xs ++ l) (drop_more xs i 0 less)) distinct)

-- what is listed before a number, where it isn't listed earlier
pub before_here : (xs ys : List ℕ) (v : ℕ) → is_in xs v ≡ false → listed_before (xs ++ v ∷ ys) v ≡ xs
before_here [] ys v out =
    take_while-cons (λ u. not (u == v)) v ys
    ∙ ap (λ b. cond (not b) (v ∷ listed_before ys v) []) (eq-eqb v v refl)
before_here (x ∷ xs) ys v out =
    let parts = or_parts (x == v) (is_in xs v) out in
    take_while-cons (λ u. not (u == v)) x (xs ++ v ∷ ys)
    ∙ (ap (λ b. cond (not b) (x ∷ listed_before (xs ++ v ∷ ys) v) []) parts.0
    ∙ ap (λ l. x ∷ l) (before_here xs ys v parts.1))

-- a list parted at one of its numbers
pub parted : (vs : List ℕ) (v : ℕ) → is_in vs v ≡ true → (ys : List ℕ) × (vs ≡ listed_before vs v ++ v ∷ ys)
parted [] v held = absurd (let clash : false ≡ true = held in cc)
parted (x ∷ xs) v held = by (x == v) refl held (parted xs v)
  where
    beside : (b : Bool) → (x == v) ≡ b → listed_before (x ∷ xs) v ≡ cond (not b) (x ∷ listed_before xs v) []
    beside b e =
        take_while-cons (λ u. not (u == v)) x xs ∙ ap (λ c. cond (not c) (x ∷ listed_before xs v) []) e

    by : (b : Bool) → (x == v) ≡ b → is_in (x ∷ xs) v ≡ true → (is_in xs v ≡ true → (ys : List ℕ) × (xs ≡ listed_before xs v ++ v ∷ ys))
        → (ys : List ℕ) × (x ∷ xs ≡ listed_before (x ∷ xs) v ++ v ∷ ys)
    by true e h rest = (xs, ap (λ u. u ∷ xs) (eqb-true x v e) ∙ ap (λ l. l ++ v ∷ xs) (sym (beside true e)))
    by false e h rest =
        let more = rest (sym (ap (λ b. b || is_in xs v) e) ∙ h) in
        (more.0, ap (λ l. x ∷ l) more.1 ∙ ap (λ l. l ++ v ∷ more.0) (sym (beside false e)))

-- back from the last of the first numbers of a list
pub back_over : (vs xs ys : List ℕ) → AreDistinct vs → vs ≡ xs ++ ys → back_from vs (last_or None xs) ≡ reverse xs
back_over vs xs ys distinct is = by (ended xs)
  where
    by : (xs ≡ []) ⊎ Ends xs → back_from vs (last_or None xs) ≡ reverse xs
    by (inl none) = rw none refl
    by (inr e) =
        let whole : vs ≡ e.front ++ e.last ∷ ys =
        is ∙ (ap (λ l. l ++ ys) e.is ∙ append_assoc e.front (e.last ∷ []) ys) in
        let before : listed_before vs e.last ≡ e.front =
        ap (λ l. listed_before l e.last) whole
        ∙ before_here e.front ys e.last (distinct_before e.front ys e.last (subst AreDistinct whole distinct)) in
        ap (λ l. back_from vs (last_or None l)) e.is
        ∙ (ap (back_from vs) (last_push None e.front e.last)
        ∙ (ap (λ l. e.last ∷ reverse l) before
        ∙ (sym (reverse-append e.front (e.last ∷ [])) ∙ ap reverse (sym e.is))))
