-- Text on its way to a sink.
use Rattle.std.specs.Prelude.{ℕ, ◌≡◌, List, ◌++◌, Option}
use Rattle.fb_ports.specs.Causes.{Appends}

-- text that is still to be written, and how often memory was wanting
pub record Pending : Type 0 where
  pub text : List ℕ
  pub faults : ℕ

-- a prefix of a text that waits has been written
abbrev pub Moves : Option (List ℕ) → Option (List ℕ) → List ℕ → List ℕ → Type 0
Moves taken_old taken_new old new = (moved : List ℕ) × Appends taken_old taken_new moved × (old ≡ moved ++ new)
