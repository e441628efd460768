-- What a board leaves once its workers have ended.
use Rattle.std.specs.Prelude.{ℕ, ◌≡◌, ◌+◌, ◌*◌, ◌-◌, ◌<◌, Bool, false, Option, Some, List, length, get_or, slice_get}
use mathlib.Core.Option.{some}
use lib.ListN.{get_elem?}
use Rattle.std.specs.Mem.Slots.Ownership.{Filled}

-- the slots below i were taken out, and the others are there
abbrev pub IsEmptiedTo : List Bool → ℕ → ℕ → Type 0
IsEmptiedTo filled i len = Filled filled i len × ((k : ℕ) → k < i → get_or filled k false ≡ false)

-- the pieces at the roots of the slots below s, in the order of the slots
pub record AreAtRoots {P : Type 0} (nodes : ℕ) (items : List (Option P)) (s : ℕ)
    (roots : List P) : Type 0 where
  pub count : length roots ≡ s
  pub each : (t : ℕ) (p : P) → slice_get roots t ≡ Some p
      → get_elem? items (t * nodes + (nodes - 1)) ≡ some (Some p)
