-- What holds of each format whose records are lines.
use Rattle.std.specs.Prelude.{◌≡◌, ℕ, false, List, ◌∷◌, ◌++◌, Some, None, Ok}
use Rattle.fb_records.specs.Records.{Ending, Judged, GoesOn}
use Rattle.fb_records.specs.Lines.{holds, records_by_lines, prefix_by_lines, Stays}
use Rattle.fb_records.specs.Answers.{IsLeft}

-- Some bytes may be cut in two anywhere: what the first part settles comes first in all that they hold.
abbrev pub LinesGoOn : Type 0 → Type 0 → Type 0
LinesGoOn A K =
    (judge : List ℕ → Judged A K) (begun : List ℕ → Ending K) → Stays judge begun → (bytes more : List ℕ)
    → GoesOn (prefix_by_lines judge begun bytes) (records_by_lines judge (bytes ++ more))
    × GoesOn (prefix_by_lines judge begun bytes) (prefix_by_lines judge begun (bytes ++ more))

-- What follows the first record: skipped lines before it change nothing, and its line ends it.
pub record Leaves {A K : Type 0} (judge : List ℕ → Judged A K) (after : List ℕ → List ℕ) : Type 0 where
  pub skips : (line more : List ℕ) → holds 10 line ≡ false → judge line ≡ Ok None
      → after (line ++ 10 ∷ more) ≡ after more
  pub takes : (line more : List ℕ) (shot : A) → holds 10 line ≡ false → judge line ≡ Ok (Some shot)
      → after (line ++ 10 ∷ more) ≡ more

-- Without the bytes of its first record an input gives the same without its first shot.
abbrev pub FirstLineLeaves : Type 0 → Type 0 → Type 0
FirstLineLeaves A K =
    (judge : List ℕ → Judged A K) (begun : List ℕ → Ending K) (after : List ℕ → List ℕ) → Leaves judge after
    → (bytes : List ℕ) (shot : A) (shots : List A) → (prefix_by_lines judge begun bytes).shots ≡ shot ∷ shots
    → IsLeft (records_by_lines judge) (prefix_by_lines judge begun) bytes shot (after bytes)
