-- The numbers of a crew's workers.
use Rattle.std.specs.Prelude.{ℕ, ◌≡◌, ◌<◌, List, length, get_or}

-- the number of each is its place
abbrev pub AreNumbered : {A : Type 0} → (A → ℕ) → List A → Type 0
AreNumbered {A} number xs = (k : ℕ) (d : A) → k < length xs → number (get_or xs k d) ≡ k
