-- The text of a check of a report: a line for each shot that has a row, between its head and its last line.
use Rattle.std.specs.Prelude.{ℕ, ◌+◌, ◌==◌, ◌&&◌, if◌then◌else◌, List, [], ◌∷◌, ◌++◌, map, count_by, codes, decimal}
use Rattle.std.specs.Fmt.{signed_decimal}
use Rattle.std.specs.List.{AllZip}
use Rattle.fb_graph.specs.Limits.{DecodingGraph, ShotValue}
use Rattle.fb_graph.specs.declared.parts.Row.{Row}
use Rattle.fb_report.specs.Texts.{line}
use Rattle.fb_exits.specs.declared.ending.Cause.{Cause}
use Rattle.fb_exits.specs.declared.ending.Cause.TheVariants.{Bad, Done}
use Rattle.fb_verify.specs.VerdictTexts.{is_bad, verdict_name, verdict_numbers}
use Rattle.fb_verify.specs.Verdicts.{IsVerdict}
use Rattle.fb_verify.specs.declared.verdicts.Verdict.{Verdict}

abbrev pub bad_count : List Verdict → ℕ
bad_count verdicts = count_by is_bad verdicts

-- the line of shot k
unfoldable pub verdict_line : ℕ → Verdict → List ℕ
verdict_line k v = line (codes "shot") (decimal k ∷ verdict_name v ∷ map signed_decimal (verdict_numbers v))

-- the lines of shots one after another, the first of which is shot k
abbrev pub verdict_lines : ℕ → List Verdict → List ℕ
verdict_lines k [] = []
verdict_lines k (v ∷ vs) = verdict_line k v ++ verdict_lines (k + 1) vs

unfoldable pub check_head : List ℕ
check_head = line (codes "check-report") (codes "1" ∷ [])

unfoldable pub check_last : ℕ → ℕ → ℕ → List ℕ
check_last rows shots bad =
    line (codes "rows") (decimal rows ∷ codes "shots" ∷ decimal shots ∷ codes "bad" ∷ decimal bad ∷ [])

-- how a check of `rows` rows by `shots` shots ends
abbrev pub check_cause : ℕ → ℕ → ℕ → Cause
check_cause rows shots bad = if bad == 0 && rows == shots then Done else Bad bad

-- each shot with its row, as long as there are both
abbrev pub pairs_of : List ShotValue → List Row → List (ShotValue × Row)
pairs_of [] rows = []
pairs_of (shot ∷ shots) [] = []
pairs_of (shot ∷ shots) (row ∷ rows) = (shot, row) ∷ pairs_of shots rows

abbrev pub IsPairVerdict : DecodingGraph → ShotValue × Row → Verdict → Type 0
IsPairVerdict g pair verdict = IsVerdict g pair.0 pair.1 verdict

-- the verdicts on the rows of the shots
abbrev pub AreVerdicts : DecodingGraph → List ShotValue → List Row → List Verdict → Type 0
AreVerdicts g shots rows verdicts = AllZip (IsPairVerdict g) (pairs_of shots rows) verdicts
