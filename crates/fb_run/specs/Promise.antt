-- What a decode that came to its end has written, in the words of the problem alone: each row is a correction than which
-- none is lighter, or says that there is none.
use Rattle.std.specs.Prelude.{ℕ, ℤ, ◌≡◌, ◌≤ℤ◌, true, List, ◌++◌, Option, Some, None}
use Rattle.std.specs.List.{All, AllZip}
use Rattle.fb_crew.specs.Windows.{IsHistoryOf}
use Rattle.fb_exits.specs.Ends.{IsReadToItsEnd}
use Rattle.fb_exits.specs.declared.ending.Cause.{Cause}
use Rattle.fb_graph.specs.Limits.{DecodingGraph, ShotValue}
use Rattle.fb_graph.specs.Problem.{Flips, IsEdgeSet}
use Rattle.fb_graph.specs.ShotGraphs.{shot_problem}
use Rattle.fb_graph.specs.Signs.{signed_weight_of}
use Rattle.fb_graph.specs.declared.parts.Row.{Row}
use Rattle.fb_graph.specs.declared.parts.Row.TheVariants.{Best, Odd}
use Rattle.fb_files.specs.Judging.{HasShots, Holds, IsGraphText, IsPlanText, Named}
use Rattle.fb_files.specs.Moments.{Moment}
use Rattle.fb_plan.specs.Plans.{PlanTree, single_of}
use Rattle.fb_report.specs.Texts.{head_text}
use Rattle.fb_request.specs.Requests.{Decoding, decode}
use Rattle.fb_run.specs.Decoding.{Batch, all_rows, batches_text, last_line_of}
use Rattle.fb_run.specs.RunEndings.{RequestEnds}
use Rattle.fb_shots.specs.Shots.{at_end}

-- the edges are a correction of the shot of this weight, and no correction weighs less
pub record IsLightest (g : DecodingGraph) (shot : ShotValue) (edges : List ℕ) (weight : ℤ) : Type 0 where
  pub edge_set : IsEdgeSet (shot_problem g shot) edges
  pub flips : Flips (shot_problem g shot) edges
  pub weighs : weight ≡ signed_weight_of g shot edges
  pub least : (other : List ℕ) → IsEdgeSet (shot_problem g shot) other → Flips (shot_problem g shot) other
      → weight ≤ℤ signed_weight_of g shot other

-- the row is a lightest correction of the shot, or says that it has none
abbrev pub Explains : DecodingGraph → ShotValue → Row → Type 0
Explains g shot (Best edges base weight cuts) = IsLightest g shot edges weight
Explains g shot (Odd v) = (other : List ℕ) → IsEdgeSet (shot_problem g shot) other → ¬ Flips (shot_problem g shot) other

-- the plan that was asked for: that of the named file, or of one unit if none is named
abbrev pub IsPlanAsked : Option (List ℕ) → Named → DecodingGraph → PlanTree → Type 0
IsPlanAsked None named g t = t ≡ single_of g
IsPlanAsked (Some name) named g t = Holds named name (IsPlanText g t)

-- The text is a report of the files of these names: of their graph, by the plan, a row for each shot in order that
-- explains it. If the history is wanted, it says how the rows of each window were made.
pub record IsReportOf (request : Decoding) (named : Named) (text : List ℕ) : Type 0 where
  pub graph : DecodingGraph
  pub plan : PlanTree
  pub shots : List ShotValue
  pub batches : List Batch
  pub graph_is : Holds named request.graph (IsGraphText graph)
  pub plan_is : IsPlanAsked request.plan named graph plan
  pub shots_are : Holds named request.shots (HasShots request.format graph shots at_end)
  pub rows : AllZip (Explains graph) shots (all_rows batches)
  pub histories : request.trace ≡ true → All (λ b. IsHistoryOf plan request.workers b.rows b.history) batches
  pub text_is : text ≡ (head_text ++ batches_text request.trace 0 batches) ++ last_line_of plan batches

-- A decode that read its input to its end has appended such a report to what was written before.
abbrev pub DecodesRight : Type 0
DecodesRight = (request : Decoding) (before after : Moment) (cause : Cause) (old : List ℕ)
    → RequestEnds (decode request) before after cause → IsReadToItsEnd cause → before.written ≡ Some old
    → (text : List ℕ) × (after.written ≡ Some (old ++ text)) × IsReportOf request before.named text
