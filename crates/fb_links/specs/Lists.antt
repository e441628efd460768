-- Lists of numbers as sets.
use Rattle.std.specs.Prelude.{ℕ, ◌≡◌, ◌==◌, Bool, false, List, [], ◌∷◌}
use Rattle.std.specs.List.{list_any}

-- the list holds the number
abbrev pub is_in : List ℕ → ℕ → Bool
is_in set v = list_any (λ u. u == v) set

-- no number comes twice
abbrev pub AreDistinct : List ℕ → Type 0
AreDistinct [] = Unit {0}
AreDistinct (v ∷ vs) = (is_in vs v ≡ false) × AreDistinct vs
