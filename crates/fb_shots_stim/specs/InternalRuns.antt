-- What a reader of `r8` keeps of the record begun.
use Rattle.std.specs.Prelude.{◌≡◌, ℕ, ◌≤◌, List, [], ◌++◌, length, take}
use Rattle.fb_records.specs.Records.{Ending}
use Rattle.fb_shots_stim.specs.declared.answer.Kind.{Kind}
use Rattle.fb_shots_stim.specs.InternalRises.{Rises}
use Rattle.fb_shots_stim.specs.RunsR8.{read_r8, after_r8_from}

-- These bytes lead from a record's start to the place in it, and name these detectors, whatever follows.
pub record LeadTo (n : ℕ) (bytes : List ℕ) (place : ℕ) (named : List ℕ) : Type 0 where
  pub read : (ending : ℕ → Ending Kind) (more : List ℕ)
      → read_r8 n ending 0 [] (bytes ++ more) ≡ read_r8 n ending place named more
  pub left : (more : List ℕ) → after_r8_from n 0 (bytes ++ more) ≡ after_r8_from n place more
  pub within : place ≤ n
  pub rises : Rises 0 place named

-- The reader has come to a place in the record begun by the first `seen` bytes.
pub record IsInRun (n place : ℕ) (named : List ℕ) (seen : ℕ) (bytes : List ℕ) : Type 0 where
  pub within : seen ≤ length bytes
  pub lead : LeadTo n (take seen bytes) place named
