-- The rows that were judged while their shots were taken.
use Rattle.std.specs.Prelude.{ℕ, ◌≡◌, ◌<◌, ◌≤◌, ◌⊎◌, List, ◌++◌, length, get_or, Bool, false, Option}
use Rattle.fb_graph.specs.Limits.{DecodingGraph, ShotValue}
use Rattle.fb_graph.specs.declared.parts.Row.{Row}
use Rattle.fb_ports.specs.Causes.{Appends, AppendsPrefix}
use Rattle.fb_verify.specs.VerdictTexts.{is_bad}
use Rattle.fb_verify.specs.Verdicts.{IsVerdict}
use Rattle.fb_verify.specs.declared.verdicts.Verdict.{Verdict}
use Rattle.fb_check.specs.Checks.{AreVerdicts, bad_count, check_cause, check_last, verdict_line, verdict_lines}
use Rattle.fb_check.specs.declared.checking.Judged.{Judged}
use Rattle.fb_exits.specs.declared.ending.Cause.{Cause}
use Rattle.fb_exits.specs.declared.ending.Cause.TheVariants.{Refused, ReadFault, WriteFault}
use Rattle.fb_exits.specs.declared.ending.Refusal.TheVariants as refusal
use Rattle.fb_files.specs.declared.taking.ShotsEnd.{ShotsEnd}
use Rattle.fb_files.specs.declared.taking.ShotsEnd.TheVariants as end

-- The shots that the input gives have been taken, and the lines of those that have a row were written.
pub record JudgesAll (Input : List ShotValue → Type 0) (g : DecodingGraph) (rows : List Row) (old new : Option (List ℕ)) (j : Judged) : Type 0 where
  pub shots : List ShotValue
  pub input : Input shots
  pub many : j.shots ≡ length shots
  pub verdicts : List Verdict
  pub answers : AreVerdicts g shots rows verdicts
  pub bad : j.bad ≡ bad_count verdicts
  pub written : Appends old new (verdict_lines 0 verdicts)

-- A prefix was written of the lines of some of the first shots.
pub record JudgesFirst (Input : List ShotValue → Type 0) (g : DecodingGraph) (rows : List Row) (old new : Option (List ℕ)) : Type 0 where
  pub shots : List ShotValue
  pub input : Input shots
  pub verdicts : List Verdict
  pub answers : AreVerdicts g shots rows verdicts
  pub written : AppendsPrefix old new (verdict_lines 0 verdicts)

-- the line of shot k was added to a text, if it has a row
pub record AddsLine (g : DecodingGraph) (rows : List Row) (k : ℕ) (shot : ShotValue) (old new : List ℕ) (bad : Bool) : Type 0 where
  pub row : Row
  pub within : k < length rows
  pub is : row ≡ get_or rows k row
  pub verdict : Verdict
  pub answer : IsVerdict g shot row verdict
  pub longer : new ≡ old ++ verdict_line k verdict
  pub counts : bad ≡ is_bad verdict

abbrev pub JudgesNext : DecodingGraph → List Row → ℕ → ShotValue → List ℕ → List ℕ → Bool → Type 0
JudgesNext g rows k shot old new bad =
    ((length rows ≤ k) × (new ≡ old) × (bad ≡ false)) ⊎ AddsLine g rows k shot old new bad

-- the end of a check of `rows` rows by `shots` shots, by how the shots ended: the last line only at their end
abbrev pub EndsCheck : ShotsEnd → ℕ → ℕ → ℕ → Option (List ℕ) → Option (List ℕ) → Cause → Type 0
EndsCheck end.End rows shots bad old new cause =
    (Appends old new (check_last rows shots bad) × (cause ≡ check_cause rows shots bad))
    ⊎ (AppendsPrefix old new (check_last rows shots bad) × (cause ≡ WriteFault))
EndsCheck (end.Refused fault) rows shots bad old new cause = (new ≡ old) × (cause ≡ Refused (refusal.Shot fault))
EndsCheck end.ReadFault rows shots bad old new cause = (new ≡ old) × (cause ≡ ReadFault)

-- The shots that the input gives have been taken. The lines of those that have a row were written, or wait.
pub record JudgesInto (Input : List ShotValue → Type 0) (g : DecodingGraph) (rows : List Row) (old new : Option (List ℕ)) (pending : List ℕ) (j : Judged) : Type 0 where
  pub shots : List ShotValue
  pub input : Input shots
  pub many : j.shots ≡ length shots
  pub verdicts : List Verdict
  pub answers : AreVerdicts g shots rows verdicts
  pub bad : j.bad ≡ bad_count verdicts
  pub flushed : List ℕ
  pub appended : Appends old new flushed
  pub text : flushed ++ pending ≡ verdict_lines 0 verdicts
