use Rattle.std.specs.Prelude.{ℕ, Bool, false, not, ◌==◌, List, [], ◌∷◌}
use Rattle.std.specs.Bool.{beq}
use Rattle.std.specs.List.{list_any}

-- exactly one of the two holds: the sum of two parities
abbrev pub differ : Bool → Bool → Bool
differ a b = not (beq a b)

-- an odd number of the elements pass the test
abbrev pub is_odd_count : {X : Type 0} → (X → Bool) → List X → Bool
is_odd_count test [] = false
is_odd_count test (x ∷ xs) = differ (test x) (is_odd_count test xs)

-- the list holds the number
abbrev pub is_in : List ℕ → ℕ → Bool
is_in set v = list_any (λ u. u == v) set
