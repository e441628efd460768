-- A position in a report whose lines are read one after another.
use Rattle.std.specs.Prelude.{ℕ, ◌≡◌, ◌==◌, List, Result}
use Rattle.std.specs.List.{slice_split}
use Rattle.fb_verify.specs.declared.report_faults.ReportFault.{ReportFault}
use Rattle.fb_verify.specs.declared.reports.Report.{Report}
use Rattle.fb_verify.specs.declared.walking.Walk.{Walk}
use Rattle.fb_verify.specs.InternalWalks.{walk_of}
use Rattle.fb_verify.specs.Places.{Reading}
use Rattle.fb_verify.specs.Reports.{read_from}

-- the number of the next line, the text from there on, and what decides which lines may follow
pub record Position : Type 0 where
  pub number : ℕ
  pub rest : List ℕ
  pub walk : Walk

-- what is read before the position may be this
abbrev pub IsAt : Position → Reading → Type 0
IsAt p r = p.walk ≡ walk_of r.rows r.place

-- the report that a text is, by what is read of it before the position
abbrev pub report_from : Position → Reading → Result Report ReportFault
report_from p r = read_from p.number r (slice_split (λ b. b == 10) p.rest)
