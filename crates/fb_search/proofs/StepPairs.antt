-- The steps of a round read two by two.
use Rattle.std.proofs.Common.{ℕ, ◌≡◌, ◌+◌, ◌<◌, ◌≤◌, List, [], ◌∷◌, ◌++◌, length, get_or, drop, refl, sym, ap, ◌∙◌, append_assoc, arith}
use Rattle.std.proofs.lemmas.List.{drop_more, length-drop}
use Rattle.fb_links.specs.declared.cycle.CycleStep.{CycleStep}
use Rattle.fb_search.specs.InternalOpenings.{between_on, couples_on}

-- two elements more
pub two_more : {X : Type 0} (xs : List X) (i : ℕ) (d : X) → i + 1 < length xs
    → drop i xs ≡ get_or xs i d ∷ get_or xs (i + 1) d ∷ drop (i + 2) xs
two_more xs i d lt =
    let next : i + 1 + 1 ≡ i + 2 = omega arith in
    drop_more xs i d (omega arith)
    ∙ ap (λ l. get_or xs i d ∷ l)
    (drop_more xs (i + 1) d lt ∙ ap (λ n. get_or xs (i + 1) d ∷ drop n xs) next)

pub between_more : (xs : List CycleStep) (i : ℕ) (d : CycleStep) → i + 1 < length xs
    → between_on (drop i xs) ≡ (get_or xs (i + 1) d).link ∷ between_on (drop (i + 2) xs)
between_more xs i d lt = ap between_on (two_more xs i d lt)

pub links_step : (steps : List CycleStep) (i : ℕ) (d : CycleStep) (all done new : List ℕ) → i + 1 < length steps
    → all ≡ done ++ between_on (drop i steps) → new ≡ done ++ (get_or steps (i + 1) d).link ∷ []
    → all ≡ new ++ between_on (drop (i + 2) steps)
links_step steps i d all done new lt is pushed =
    is
    ∙ ap (λ l. done ++ l) (between_more steps i d lt)
    ∙ sym (append_assoc done ((get_or steps (i + 1) d).link ∷ []) (between_on (drop (i + 2) steps)))
    ∙ ap (λ l. l ++ between_on (drop (i + 2) steps)) (sym pushed)

-- fewer than two elements make no pair
couples_short : (xs : List CycleStep) → length xs ≤ 1 → couples_on xs ≡ []
couples_short [] le = refl
couples_short (s ∷ []) le = refl
couples_short (s ∷ t ∷ ss) le = absurd (omega (arith, le))

between_short : (xs : List CycleStep) → length xs ≤ 1 → between_on xs ≡ []
between_short [] le = refl
between_short (s ∷ []) le = refl
between_short (s ∷ t ∷ ss) le = absurd (omega (arith, le))

rest_short : (xs : List CycleStep) (i : ℕ) → length xs ≤ i + 1 → length (drop i xs) ≤ 1
rest_short xs i le = omega (arith, length-drop i xs)

pub couples_done : (xs : List CycleStep) (i : ℕ) → length xs ≤ i + 1 → couples_on (drop i xs) ≡ []
couples_done xs i le = couples_short (drop i xs) (rest_short xs i le)

pub between_done : (xs : List CycleStep) (i : ℕ) → length xs ≤ i + 1 → between_on (drop i xs) ≡ []
between_done xs i le = between_short (drop i xs) (rest_short xs i le)
