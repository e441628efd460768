-- What each end of a run says of what was written and read.
use Rattle.std.specs.Prelude.{ℕ, ◌⊎◌, List, [], ◌∷◌, Option, Some, None}
use Rattle.fb_graph.specs.Limits.{DecodingGraph}
use Rattle.fb_plan.specs.Plans.{PlanTree, single_of}
use Rattle.fb_exits.specs.Ends.{EndsAtFile, EndsInText, IsGraphRefusal, IsPlanRefusal}
use Rattle.fb_exits.specs.TextEnds.{Account, Source, TextEnds}
use Rattle.fb_run.specs.Decoding.{AreBatches, Batch, HaveWholeWindows, all_rows, batches_text, cause_of, last_line_of}
use Rattle.fb_report.specs.Texts.{head_text}
use Rattle.fb_files.specs.Judging.{Asks, IsGraphText, IsPlanText}
use Rattle.fb_files.specs.Moments.{Moment, ReadsFile}
use Rattle.fb_run.specs.Rows.{counts_of}
use Rattle.fb_request.specs.Requests.{Decoding}
use Rattle.fb_exits.specs.declared.ending.Cause.{Cause}

-- a decode writes a right row for each shot, in batches
abbrev pub decode_account : Decoding → DecodingGraph → PlanTree → Account Batch
decode_account request g t = record {
  Answers = AreBatches request g t;
  FillWindows = HaveWholeWindows request;
  head = head_text;
  body = batches_text request.trace 0;
  last = λ shots batches. last_line_of t batches;
  cause = λ shots batches. cause_of (counts_of (all_rows batches));
}

abbrev pub decode_source : Decoding → DecodingGraph → Source
decode_source request g = record { name = request.shots; format = request.format; graph = g }

-- the shots were asked for, and the decode ended so
abbrev pub EndsAtShots : Decoding → DecodingGraph → PlanTree → Moment → Moment → Cause → Type 0
EndsAtShots request g t before after cause =
    Asks before.asked after.asked (request.shots ∷ [])
    × TextEnds (decode_account request g t) (decode_source request g) before after cause

-- the end of a decode for a graph by a plan of it: before the shots are asked for, or after
abbrev pub EndsOn : Decoding → DecodingGraph → PlanTree → Moment → Moment → Cause → Type 0
EndsOn request g t before after cause =
    EndsInText head_text before after cause ⊎ EndsAtShots request g t before after cause

-- the file of the plan holds one of the graph, and the decode ended so by it
pub record EndsWithPlan (request : Decoding) (g : DecodingGraph) (name : List ℕ) (before after : Moment) (cause : Cause) : Type 0 where
  pub t : PlanTree
  pub read : Moment
  pub plan : ReadsFile (IsPlanText g t) name before read
  pub ends : EndsOn request g t read after cause

-- the end of a decode for a graph: by the plan of one unit where none is named, else at the plan, or with it
abbrev pub EndsByPlan : Option (List ℕ) → Decoding → DecodingGraph → Moment → Moment → Cause → Type 0
EndsByPlan None request g before after cause = EndsOn request g (single_of g) before after cause
EndsByPlan (Some name) request g before after cause =
    EndsAtFile (IsPlanRefusal g before.named name) name before after cause
    ⊎ EndsWithPlan request g name before after cause

-- the file of the graph holds one, and the decode ended so for it
pub record EndsWithGraph (request : Decoding) (before after : Moment) (cause : Cause) : Type 0 where
  pub g : DecodingGraph
  pub read : Moment
  pub graph : ReadsFile (IsGraphText g) request.graph before read
  pub ends : EndsByPlan request.plan request g read after cause

-- the end of a decode: at the graph, or with it
abbrev pub DecodeEnds : Decoding → Moment → Moment → Cause → Type 0
DecodeEnds request before after cause =
    EndsAtFile (IsGraphRefusal before.named request.graph) request.graph before after cause
    ⊎ EndsWithGraph request before after cause
