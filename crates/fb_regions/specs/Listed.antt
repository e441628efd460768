-- A list passed over from its last number to its first.
use Rattle.std.specs.Prelude.{ℕ, ◌==◌, List, [], ◌∷◌, not, reverse, Option, Some, None}
use Rattle.std.specs.List.{take_while}

-- the numbers listed before this one
abbrev pub listed_before : List ℕ → ℕ → List ℕ
listed_before vs v = take_while (λ u. not (u == v)) vs

-- the number and those listed before it, from it back to the first; nothing from none
abbrev pub back_from : List ℕ → Option ℕ → List ℕ
back_from vs None = []
back_from vs (Some v) = v ∷ reverse (listed_before vs v)
