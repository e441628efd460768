-- What each end of a check says of what was written and read.
use Rattle.std.specs.Prelude.{◌≡◌, ◌⊎◌, List, [], ◌∷◌, length, ⊤}
use Rattle.fb_graph.specs.Limits.{DecodingGraph}
use Rattle.fb_graph.specs.declared.parts.Row.{Row}
use Rattle.fb_verify.specs.declared.reports.Report.{Report}
use Rattle.fb_verify.specs.declared.verdicts.Verdict.{Verdict}
use Rattle.fb_check.specs.Checks.{AreVerdicts, bad_count, check_cause, check_head, check_last, verdict_lines}
use Rattle.fb_exits.specs.Ends.{EndsAtFile, EndsInText, IsGraphRefusal, IsReportRefusal}
use Rattle.fb_exits.specs.TextEnds.{Account, Source, TextEnds}
use Rattle.fb_files.specs.Judging.{Asks, IsGraphText, IsReportText}
use Rattle.fb_files.specs.Moments.{Moment, ReadsFile}
use Rattle.fb_request.specs.Requests.{Checking}
use Rattle.fb_exits.specs.declared.ending.Cause.{Cause}
use Rattle.fb_exits.specs.declared.ending.Cause.TheVariants.{NoMemory}

-- a check writes the verdict on the row of each shot that has one
abbrev pub check_account : DecodingGraph → List Row → Account Verdict
check_account g rows = record {
  Answers = λ shots verdicts. AreVerdicts g shots rows verdicts;
  FillWindows = λ shots verdicts. ⊤;
  head = check_head;
  body = verdict_lines 0;
  last = λ shots verdicts. check_last (length rows) (length shots) (bad_count verdicts);
  cause = λ shots verdicts. check_cause (length rows) (length shots) (bad_count verdicts);
}

abbrev pub check_source : Checking → DecodingGraph → Source
check_source request g = record { name = request.shots; format = request.format; graph = g }

-- the shots were asked for, and the check ended so: for want of memory only if no read failed
abbrev pub ChecksAtShots : Checking → DecodingGraph → List Row → Moment → Moment → Cause → Type 0
ChecksAtShots request g rows before after cause =
    Asks before.asked after.asked (request.shots ∷ [])
    × (cause ≡ NoMemory → after.faults ≡ before.faults)
    × TextEnds (check_account g rows) (check_source request g) before after cause

-- the end of a check of rows for a graph: before the shots are asked for, or after
abbrev pub ChecksOn : Checking → DecodingGraph → List Row → Moment → Moment → Cause → Type 0
ChecksOn request g rows before after cause =
    EndsInText check_head before after cause ⊎ ChecksAtShots request g rows before after cause

-- the file of the report holds one, and the check of its rows ended so
pub record EndsWithReport (request : Checking) (g : DecodingGraph) (before after : Moment) (cause : Cause) : Type 0 where
  pub report : Report
  pub read : Moment
  pub holds : ReadsFile (IsReportText report) request.report before read
  pub ends : ChecksOn request g report.rows read after cause

-- the end of a check for a graph: at the report, or with it
abbrev pub ReportEnds : Checking → DecodingGraph → Moment → Moment → Cause → Type 0
ReportEnds request g before after cause =
    EndsAtFile (IsReportRefusal before.named request.report) request.report before after cause
    ⊎ EndsWithReport request g before after cause

-- the file of the graph holds one, and the check ended so for it
pub record ChecksWithGraph (request : Checking) (before after : Moment) (cause : Cause) : Type 0 where
  pub g : DecodingGraph
  pub read : Moment
  pub graph : ReadsFile (IsGraphText g) request.graph before read
  pub ends : ReportEnds request g read after cause

-- the end of a check: at the graph, or with it
abbrev pub CheckEnds : Checking → Moment → Moment → Cause → Type 0
CheckEnds request before after cause =
    EndsAtFile (IsGraphRefusal before.named request.graph) request.graph before after cause
    ⊎ ChecksWithGraph request before after cause
