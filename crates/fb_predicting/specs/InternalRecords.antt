-- The records of a report's rows, put while its lines are read.
use Rattle.std.specs.Prelude.{pos, ℕ, ◌≡◌, List, [], count_by}
use Rattle.fb_graph.specs.declared.parts.Row.TheVariants as row
use Rattle.fb_files.specs.Judging.{Holds, IsReportText, Named}
use Rattle.fb_predict.specs.Codings.{coded}
use Rattle.fb_predict.specs.Observing.{observed_bits}
use Rattle.fb_predicting.specs.Predictions.{predictions}
use Rattle.fb_predicting.specs.declared.records.Records.{Records}
use Rattle.fb_request.specs.declared.coding.Coding.{Coding}
use Rattle.fb_verify.specs.Reports.{is_odd}
use Rattle.fb_verify.specs.declared.lines.Line.{Line}
use Rattle.fb_verify.specs.declared.lines.Line.TheVariants as line
use Rattle.fb_verify.specs.declared.reports.Report.{Report}

-- what a line adds: the edges of a row settle its record, and so does a row without a correction
abbrev pub record_at : Coding → List (List ℕ) → Line → List ℕ
record_at to observables (line.Edges edges) = coded to (observed_bits observables (row.Best edges (pos 0) (pos 0) []))
record_at to observables (line.Odd shot vertex) = coded to (observed_bits observables (row.Odd vertex))
record_at to observables said = []

-- the records are those of the rows of the report, and so many of these have no correction
pub record AreRecords (to : Coding) (observables : List (List ℕ)) (report : Report) (records : Records) : Type 0 where
  pub text : records.waiting.text ≡ predictions to observables report.rows
  pub odd : records.odd ≡ count_by is_odd report.rows

-- the text is a report, and the records are those of its rows
abbrev pub AreRecordsOfText : Coding → List (List ℕ) → List ℕ → Records → Type 0
AreRecordsOfText to observables text records =
    (report : Report) × IsReportText report text × AreRecords to observables report records

-- the file of the name holds a report, and the records are those of its rows
abbrev pub AreRecordsOfFile : Coding → List (List ℕ) → Named → List ℕ → Records → Type 0
AreRecordsOfFile to observables named name records =
    (report : Report) × Holds named name (IsReportText report) × AreRecords to observables report records
