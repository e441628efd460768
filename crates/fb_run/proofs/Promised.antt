-- That a decode that came to its end has written a report of lightest corrections.
use Rattle.std.proofs.Common.{◌≡◌, ℕ, ◌≤◌, ◌⊎◌, Bool, true, List, [], ◌∷◌, ◌++◌, take, drop, Option, Some, None, refl, sym, ap, ◌∙◌, subst, inl, inr}
use Rattle.std.proofs.lemmas.List.{take-append-drop}
use Rattle.std.specs.List.{All, AllZip, flat_map}
use Rattle.std.proofs.lemmas.List.Elements.{All-nil, All-cons, All-head, All-tail}
use Rattle.fb_crew.specs.Windows.{AreRows, IsHistoryOf, IsShotRow}
use Rattle.fb_exits.specs.Ends.{EndsAtFile, EndsInText, IsGraphRefusal, IsPlanRefusal, IsReadToItsEnd}
use Rattle.fb_exits.specs.TextEnds.{Account, Source, TextEnds, WritesWhole, whole_text}
use Rattle.fb_exits.specs.declared.ending.Cause.{Cause}
use Rattle.fb_exits.specs.declared.ending.Cause.TheVariants.{Done, Odd, Bad, Refused, ReadFault, WriteFault, NoMemory, Usage}
use Rattle.fb_exits.specs.declared.ending.Refusal.{Refusal}
use Rattle.fb_graph.specs.Answers.{BestWeighsLeast}
use Rattle.fb_graph.specs.Laws.{NoCorrection}
use Rattle.fb_graph.specs.Limits.{DecodingGraph, IsGraph, IsShot, ShotValue}
use Rattle.fb_graph.specs.declared.parts.Row.{Row}
use Rattle.fb_graph.specs.declared.parts.Row.TheVariants as row
use Rattle.fb_files.specs.Judging.{HasShots, Holds, IsGraphText, IsPlanText, Named}
use Rattle.fb_files.specs.Moments.{Moment}
use Rattle.fb_ports.specs.Causes.{Appends}
use Rattle.fb_plan.specs.Plans.{PlanTree, single_of}
use Rattle.fb_report.specs.Texts.{head_text}
use Rattle.fb_request.specs.Requests.{Decoding, decode}
use Rattle.fb_run.specs.Decoding.{AreBatches, Batch, all_rows, batches_text, last_line_of}
use Rattle.fb_run.specs.Endings.{DecodeEnds, EndsByPlan, EndsOn, decode_account, decode_source}
use Rattle.fb_shots.specs.Shots.{at_end}
use Rattle.fb_run.specs.Promise.{DecodesRight, Explains, IsPlanAsked, IsReportOf}

-- a command that came to its end didn't end at a file, nor in its first text
not_at_file : (IsReason : Refusal → Type 0) (name : List ℕ) (before after : Moment) (cause : Cause)
    → EndsAtFile IsReason name before after cause → ¬ IsReadToItsEnd cause
not_at_file IsReason name before after Done ends whole = absurd ends
not_at_file IsReason name before after Odd ends whole = absurd ends
not_at_file IsReason name before after (Bad count) ends whole = absurd ends
not_at_file IsReason name before after (Refused r) ends whole = absurd whole
not_at_file IsReason name before after ReadFault ends whole = absurd whole
not_at_file IsReason name before after WriteFault ends whole = absurd whole
not_at_file IsReason name before after NoMemory ends whole = absurd whole
not_at_file IsReason name before after (Usage kind) ends whole = absurd whole

not_in_text : (text : List ℕ) (before after : Moment) (cause : Cause) → EndsInText text before after cause
    → ¬ IsReadToItsEnd cause
not_in_text text before after cause ends whole = step ends.ends
  where
    step : (cause ≡ WriteFault) ⊎ (cause ≡ NoMemory) → ⊥
    step (inl is) = absurd (subst IsReadToItsEnd is whole)
    step (inr is) = absurd (subst IsReadToItsEnd is whole)

-- what was appended to a known text
appended : (old : List ℕ) (new : Option (List ℕ)) (text : List ℕ) → Appends (Some old) new text → new ≡ Some (old ++ text)
appended old None text added = absurd added
appended old (Some now) text added = ap Some added

-- at its end it has written the whole text
whole_at_end : {A : Type 0} (account : Account A) (source : Source) (before after : Moment) (cause : Cause)
    → TextEnds account source before after cause → IsReadToItsEnd cause → WritesWhole account source before after cause
whole_at_end account source before after Done ends whole = ends
whole_at_end account source before after Odd ends whole = ends
whole_at_end account source before after (Bad count) ends whole = ends
whole_at_end account source before after (Refused r) ends whole = absurd whole
whole_at_end account source before after ReadFault ends whole = absurd whole
whole_at_end account source before after WriteFault ends whole = absurd whole
whole_at_end account source before after NoMemory ends whole = absurd whole
whole_at_end account source before after (Usage kind) ends whole = absurd whole

all_zip-append : {A B : Type 0} (R : A → B → Type 0) (xs us : List A) (ys vs : List B) → AllZip R xs ys → AllZip R us vs
    → AllZip R (xs ++ us) (ys ++ vs)
all_zip-append R [] us [] vs first second = second
all_zip-append R [] us (y ∷ ys) vs first second = absurd first
all_zip-append R (x ∷ xs) us [] vs first second = absurd first
all_zip-append R (x ∷ xs) us (y ∷ ys) vs first second = (first.0, all_zip-append R xs us ys vs first.1 second)

module _ (least : BestWeighsLeast) (none : NoCorrection) where
  -- a right row explains its shot
  explained : (g : DecodingGraph) (shot : ShotValue) (r : Row) → IsGraph g → IsShot g shot → IsShotRow g shot r → Explains g shot r
  explained g shot (row.Best edges base weight cuts) graph is right = record {
    edge_set = right.1.edge_set;
    flips = right.1.flips;
    weighs = right.1.weighs;
    least = least g shot edges base weight cuts graph is right.1;
  }
  explained g shot (row.Odd v) graph is right = λ other is flips. none _ v right.0 other is.within flips

  all_explained : (g : DecodingGraph) (shots : List ShotValue) (rows : List Row) → IsGraph g → All (IsShot g) shots
      → AreRows g shots rows → AllZip (Explains g) shots rows
  all_explained g [] [] graph each right = right
  all_explained g [] (r ∷ rs) graph each right = absurd right
  all_explained g (s ∷ ss) [] graph each right = absurd right
  all_explained g (s ∷ ss) (r ∷ rs) graph each right = (
    explained g s r graph (All-head (IsShot g) s ss each) right.0,
    all_explained g ss rs graph (All-tail (IsShot g) s ss each) right.1,
  )

  -- the rows of all batches, one after another
  rows_explained : (request : Decoding) (g : DecodingGraph) (t : PlanTree) (shots : List ShotValue) (bs : List Batch)
      → AreBatches request g t shots bs → AllZip (Explains g) shots (all_rows bs)
  rows_explained request g t shots [] are = subst (λ ss. AllZip (Explains g) ss []) (sym are) tt
  rows_explained request g t shots (b ∷ bs) are =
      subst (λ ss. AllZip (Explains g) ss (b.rows ++ all_rows bs)) (take-append-drop request.window shots)
      (all_zip-append (Explains g) (take request.window shots) (drop request.window shots) b.rows (all_rows bs)
      (all_explained g (take request.window shots) b.rows are.1.is_graph are.1.of_graph are.1.rows)
      (rows_explained request g t (drop request.window shots) bs are.2))

histories_of : (request : Decoding) (g : DecodingGraph) (t : PlanTree) (shots : List ShotValue) (bs : List Batch)
    → AreBatches request g t shots bs → request.trace ≡ true
    → All (λ (b : Batch). IsHistoryOf t request.workers b.rows b.history) bs
histories_of request g t shots [] are traced = All-nil (λ (b : Batch). IsHistoryOf t request.workers b.rows b.history)
histories_of request g t shots (b ∷ bs) are traced =
    All-cons (λ (b : Batch). IsHistoryOf t request.workers b.rows b.history) b bs (are.1.history traced)
    (histories_of request g t (drop request.window shots) bs are.2 traced)

module _ (least : BestWeighsLeast) (none : NoCorrection) (request : Decoding) (cause : Cause) (whole : IsReadToItsEnd cause) where
  abbrev Reported : Named → Moment → Moment → DecodingGraph → PlanTree → Type 0
  Reported named before after g t = (old : List ℕ) → before.written ≡ Some old → Holds named request.graph (IsGraphText g)
      → IsPlanAsked request.plan named g t → (text : List ℕ) × (after.written ≡ Some (old ++ text)) × IsReportOf request named text

  written_whole : (named : Named) (before after : Moment) (g : DecodingGraph) (t : PlanTree) → before.named ≡ named
      → WritesWhole (decode_account request g t) (decode_source request g) before after cause → Reported named before after g t
  written_whole named before after g t same writes old at graph plan = (
    (head_text ++ batches_text request.trace 0 writes.answers) ++ last_line_of t writes.answers,
    appended old after.written (whole_text (decode_account request g t) writes.shots writes.answers)
        (subst (λ w. Appends w after.written (whole_text (decode_account request g t) writes.shots writes.answers)) at writes.written),
    record {
      graph = g;
      plan = t;
      shots = writes.shots;
      batches = writes.answers;
      graph_is = graph;
      plan_is = plan;
      shots_are = subst (λ n. Holds n request.shots (HasShots request.format g writes.shots at_end)) same writes.input;
      rows = rows_explained least none request g t writes.shots writes.answers writes.right;
      histories = histories_of request g t writes.shots writes.answers writes.right;
      text_is = refl;
    },
  )

  on_graph : (named : Named) (before after : Moment) (g : DecodingGraph) (t : PlanTree) → before.named ≡ named
      → EndsOn request g t before after cause → Reported named before after g t
  on_graph named before after g t same (inl ends) = absurd (not_in_text head_text before after cause ends whole)
  on_graph named before after g t same (inr ends) =
      written_whole named before after g t same
      (whole_at_end (decode_account request g t) (decode_source request g) before after cause ends.1 whole)

  by_plan : (named : Named) (before after : Moment) (g : DecodingGraph) → before.named ≡ named
      → (asked : Option (List ℕ)) → request.plan ≡ asked → EndsByPlan asked request g before after cause
      → (old : List ℕ) → before.written ≡ Some old → Holds named request.graph (IsGraphText g)
      → (text : List ℕ) × (after.written ≡ Some (old ++ text)) × IsReportOf request named text
  by_plan named before after g same None is ends old at graph =
      on_graph named before after g (single_of g) same ends old at graph
      (subst (λ a. IsPlanAsked a named g (single_of g)) (sym is) refl)
  by_plan named before after g same (Some name) is (inl ends) old at graph =
      absurd (not_at_file (IsPlanRefusal g before.named name) name before after cause ends whole)
  by_plan named before after g same (Some name) is (inr ends) old at graph =
      on_graph named ends.read after g ends.t (ends.plan.named ∙ same) ends.ends old (ends.plan.written ∙ at) graph
      (subst (λ a. IsPlanAsked a named g ends.t) (sym is) (subst (λ n. Holds n name (IsPlanText g ends.t)) same ends.plan.text))

  decoded : (before after : Moment) → DecodeEnds request before after cause → (old : List ℕ) → before.written ≡ Some old
      → (text : List ℕ) × (after.written ≡ Some (old ++ text)) × IsReportOf request before.named text
  decoded before after (inl ends) old at =
      absurd (not_at_file (IsGraphRefusal before.named request.graph) request.graph before after cause ends whole)
  decoded before after (inr ends) old at =
      by_plan before.named ends.read after ends.g ends.graph.named request.plan refl ends.ends old (ends.graph.written ∙ at)
      ends.graph.text

pub decodes_right : BestWeighsLeast → NoCorrection → DecodesRight
decodes_right least none request before after cause old ends whole at =
    decoded least none request cause whole before after ends old at
