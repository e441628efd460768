-- The shots that a text lists.
use Rattle.std.specs.Prelude.{ℕ, ◌+◌, ◌<◌, if◌then◌else◌, Bool, List, [], ◌∷◌, All}
use Rattle.std.specs.List.Sorted.{IsStrictlyIncreasing}

-- a shot of n detectors: those that fired, strictly rising, each below n
pub record IsShotOf (n : ℕ) (shot : List ℕ) : Type 0 where
  pub rising : IsStrictlyIncreasing shot
  pub below : All (λ k. k < n) shot

-- the places, counted from i, of the elements that pass
abbrev pub places_from : (ℕ → Bool) → ℕ → List ℕ → List ℕ
places_from passes i [] = []
places_from passes i (x ∷ xs) = if passes x then i ∷ places_from passes (i + 1) xs else places_from passes (i + 1) xs
