-- The rising beginning of a list.
use Rattle.std.proofs.Common.{ℕ, ◌+◌, ◌-◌, ◌<◌, ◌≤◌, ◌≡◌, ◌⊎◌, inl, inr, List, length, get_or, take, arith, subst}
use Rattle.std.proofs.lemmas.Bool.{cases_lt}
use Rattle.std.proofs.lemmas.List.{get_or-take, length-take-le}
use Rattle.std.specs.List.Sorted.{IsStrictlyIncreasing}

-- each of the first numbers is below the next one
abbrev pub RisesTo : List ℕ → ℕ → Type 0
RisesTo xs i = (k : ℕ) → k + 1 < i → get_or xs k 0 < get_or xs (k + 1) 0

-- they rise
pub rises_taken : (xs : List ℕ) (i : ℕ) → i ≤ length xs → RisesTo xs i → IsStrictlyIncreasing (take i xs)
rises_taken xs i within rises k less =
    let small : k + 1 < i = omega (arith, length-take-le i xs within, less) in
    let first = get_or-take i xs k 0 (omega arith) in
    let second = get_or-take i xs (k + 1) 0 small in
    omega (arith, rises k small)

-- one more
pub rises_more : (xs : List ℕ) (i : ℕ) → get_or xs (i - 1) 0 < get_or xs i 0 → RisesTo xs i → RisesTo xs (i + 1)
rises_more xs i step rises k less = at (cases_lt (k + 1) i)
  where
    at : (k + 1 < i) ⊎ (i ≤ k + 1) → get_or xs k 0 < get_or xs (k + 1) 0
    at (inl below) = rises k below
    at (inr last) =
        let before : i - 1 ≡ k = omega (arith, less) in
        let next : i ≡ k + 1 = omega (arith, less) in
        subst (λ n. get_or xs k 0 < get_or xs n 0) next (subst (λ n. get_or xs n 0 < get_or xs i 0) before step)
