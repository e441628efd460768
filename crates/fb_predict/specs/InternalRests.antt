-- What is left of a text to be put.
use Rattle.std.specs.Prelude.{◌≡◌, ℕ, Bool, true, false, List, [], ◌∷◌, ◌++◌, map, codes, decimal, if◌then◌else◌, Option}
use Rattle.std.specs.List.{flat_map}
use Rattle.fb_ports.specs.Causes.{Appends}
use Rattle.fb_shots_stim.specs.CodedShots.{ones_from, with_commas}

-- A sink has taken a text but for the rest of it.
pub record HasTaken (before now : Option (List ℕ)) (text rest : List ℕ) : Type 0 where
  pub taken : List ℕ
  pub all : text ≡ taken ++ rest
  pub appends : Appends before now taken

abbrev pub rest_01 : List Bool → List ℕ
rest_01 bits = map (λ bit. if bit then 49 else 48) bits ++ 10 ∷ []

-- the bits from place i on
abbrev pub rest_dets : ℕ → List Bool → List ℕ
rest_dets i bits = flat_map (λ k. codes " L" ++ decimal k) (ones_from i bits) ++ 10 ∷ []

-- the numbers that follow others, if any does
abbrev pub more_hits : Bool → List (List ℕ) → List ℕ
more_hits any [] = []
more_hits false (word ∷ words) = with_commas (word ∷ words)
more_hits true (word ∷ words) = 44 ∷ with_commas (word ∷ words)

abbrev pub rest_hits : Bool → ℕ → List Bool → List ℕ
rest_hits any i bits = more_hits any (map decimal (ones_from i bits)) ++ 10 ∷ []
