-- What each end of the command `predict` says of what was written and read.
use Rattle.std.specs.Prelude.{ℕ, ◌≡◌, ◌⊎◌, List, [], Option, length}
use Rattle.fb_exits.specs.Ends.{EndsAtFile, IsGraphRefusal, IsObservablesRefusal, IsReportRefusal}
use Rattle.fb_exits.specs.declared.ending.Cause.{Cause}
use Rattle.fb_exits.specs.declared.ending.Cause.TheVariants.{Done, Odd, Bad, Refused, ReadFault, WriteFault, NoMemory, Usage}
use Rattle.fb_graph.specs.Limits.{DecodingGraph}
use Rattle.fb_graph.specs.declared.parts.Row.{Row}
use Rattle.fb_files.specs.Judging.{AreObservables, Asks, IsGraphText, IsReportText}
use Rattle.fb_files.specs.Moments.{Moment, ReadsFile}
use Rattle.fb_ports.specs.Causes.{Appends, AppendsPrefix}
use Rattle.fb_predicting.specs.Predictions.{cause_of_rows, predictions}
use Rattle.fb_request.specs.Requests.{Predicting}
use Rattle.fb_request.specs.declared.coding.Coding.{Coding}
use Rattle.fb_verify.specs.declared.reports.Report.{Report}

-- How the command ends that has the rows of a report: the predictions of all rows are written, and nothing else, or a
-- prefix of them and then a fault comes or memory runs out.
abbrev pub WritesPredictions : Coding → List (List ℕ) → List Row → (old new : Option (List ℕ)) → Cause → Type 0
WritesPredictions to observables rows old new Done = (cause_of_rows rows ≡ Done) × Appends old new (predictions to observables rows)
WritesPredictions to observables rows old new Odd = (cause_of_rows rows ≡ Odd) × Appends old new (predictions to observables rows)
WritesPredictions to observables rows old new WriteFault = AppendsPrefix old new (predictions to observables rows)
WritesPredictions to observables rows old new NoMemory = AppendsPrefix old new (predictions to observables rows)
WritesPredictions to observables rows old new (Refused r) = ⊥
WritesPredictions to observables rows old new ReadFault = ⊥
WritesPredictions to observables rows old new (Bad count) = ⊥
WritesPredictions to observables rows old new (Usage kind) = ⊥

-- the file of the report holds one, no other name was asked for, no read failed, and the command ended so for its rows
pub record PredictsRows (request : Predicting) (observables : List (List ℕ)) (before after : Moment) (cause : Cause) : Type 0 where
  pub report : Report
  pub read : Moment
  pub holds : ReadsFile (IsReportText report) request.report before read
  pub asks : Asks read.asked after.asked []
  pub unfailing : after.faults ≡ read.faults
  pub ends : WritesPredictions request.to observables report.rows read.written after.written cause

-- the end of the command that has observables: at the report, or with it
abbrev pub ReportEnds : Predicting → List (List ℕ) → Moment → Moment → Cause → Type 0
ReportEnds request observables before after cause =
    EndsAtFile (IsReportRefusal before.named request.report) request.report before after cause
    ⊎ PredictsRows request observables before after cause

-- the file of the observables holds them, and the command ended so for them
pub record PredictsWithObservables (request : Predicting) (edge_count : ℕ) (before after : Moment) (cause : Cause) : Type 0 where
  pub observables : List (List ℕ)
  pub read : Moment
  pub holds : ReadsFile (AreObservables edge_count observables) request.observables before read
  pub ends : ReportEnds request observables read after cause

-- the end of the command for a graph with a number of edges: at the observables, or with them
abbrev pub ObservablesEnds : Predicting → ℕ → Moment → Moment → Cause → Type 0
ObservablesEnds request edge_count before after cause =
    EndsAtFile (IsObservablesRefusal edge_count before.named request.observables) request.observables before after cause
    ⊎ PredictsWithObservables request edge_count before after cause

-- the file of the graph holds one, and the command ended so for it
pub record PredictsWithGraph (request : Predicting) (before after : Moment) (cause : Cause) : Type 0 where
  pub g : DecodingGraph
  pub read : Moment
  pub graph : ReadsFile (IsGraphText g) request.graph before read
  pub ends : ObservablesEnds request (length g.edges) read after cause

-- the end of the command: at the graph, or with it
abbrev pub PredictEnds : Predicting → Moment → Moment → Cause → Type 0
PredictEnds request before after cause =
    EndsAtFile (IsGraphRefusal before.named request.graph) request.graph before after cause
    ⊎ PredictsWithGraph request before after cause
