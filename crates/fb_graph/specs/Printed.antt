-- From what a solver found to the row that a report prints.
use Rattle.std.specs.Prelude.{ℕ, ◌≡◌, ◌≢◌, Bool, List, filter, nat_lt}
use Rattle.std.specs.List.{AllZip}
use Rattle.std.specs.List.Sorted.{IsPermutation, IsNonDecreasing}
use Rattle.fb_graph.specs.Parity.{is_in}
use Rattle.fb_graph.specs.declared.parts.Cut.{Cut}

-- some vertex lies in exactly one of the two cuts
abbrev pub DifferAsSets : Cut → Cut → Type 0
DifferAsSets c d = (v : ℕ) × (is_in c.vertices v ≢ is_in d.vertices v)

-- the same cut with its vertices sorted
pub record IsResorted (old new : Cut) : Type 0 where
  pub value : new.value ≡ old.value
  pub moved : IsPermutation old.vertices new.vertices
  pub sorted : IsNonDecreasing new.vertices

-- the cut has a value of at least 1
abbrev pub is_positive : Cut → Bool
is_positive c = nat_lt 0 c.value

-- the second list has the cuts of positive value of the first, each with its vertices sorted, in any order
pub record HasPositiveCuts (cuts printed : List Cut) : Type 0 where
  pub resorted : List Cut
  pub each : AllZip IsResorted (filter is_positive cuts) resorted
  pub moved : IsPermutation resorted printed
