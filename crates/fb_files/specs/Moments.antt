-- What files and standard output report at a moment of a run, and what reading a file whole does to that.
use Rattle.std.specs.Prelude.{ℕ, ◌≡◌, List, [], ◌∷◌, Option}
use Rattle.fb_files.specs.Judging.{Asks, Holds, Named}

-- The bytes of files by their names, what is left of the current one, the names asked for so far, the count of the
-- files' faults, and the bytes on standard output.
pub record Moment : Type 0 where
  pub named : Named
  pub left : Option (List ℕ)
  pub asked : Option (List (List ℕ))
  pub faults : ℕ
  pub written : Option (List ℕ)

abbrev pub moment : Named → Option (List ℕ) → Option (List (List ℕ)) → ℕ → Option (List ℕ) → Moment
moment named left asked faults written =
    record { named = named; left = left; asked = asked; faults = faults; written = written }

-- The file of the name was read whole, and its text has the property. No fault came, and nothing was written.
pub record ReadsFile (P : List ℕ → Type 0) (name : List ℕ) (before after : Moment) : Type 0 where
  pub named : after.named ≡ before.named
  pub text : Holds before.named name P
  pub asks : Asks before.asked after.asked (name ∷ [])
  pub unfailing : after.faults ≡ before.faults
  pub written : after.written ≡ before.written
