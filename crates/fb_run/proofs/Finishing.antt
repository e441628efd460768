-- How the report of a graph's shots ends.
use Rattle.std.proofs.Common.{◌≡◌, ℕ, ◌+◌, ◌==◌, ◌≢◌, ◌<◌, ◌⊎◌, inl, inr, Bool, true, false, if◌then◌else◌, List, [], ◌++◌, length, Option, refl, sym, ap, subst, ◌∙◌, append-nil, arith}
use Rattle.std.proofs.KnownBytes.{Appends-trans}
use Rattle.fb_graph.specs.Limits.{DecodingGraph, ShotValue}
use Rattle.fb_plan.specs.Plans.{PlanTree}
use Rattle.fb_ports.specs.Causes.{Appends, AppendsPrefix, CountsFault}
use Rattle.fb_ports.proofs.Onward.{prefix_second}
use Rattle.fb_report.specs.Texts.{head_text}
use Rattle.fb_shots.specs.Shots.{Ending, at_end}
use Rattle.fb_exits.specs.Ends.{CountsReadFault, IsReadToItsEnd, MayFollowReadFault}
use Rattle.fb_exits.specs.TextEnds.{EndAfter, TextEnds, WritesPart, WritesWhole}
use Rattle.fb_exits.proofs.InText.{appends_after, end_after}
use Rattle.fb_files.specs.Moments.{Moment}
use Rattle.fb_files.proofs.Gathered.{gathers_opened, holds_opened}
use Rattle.fb_files.proofs.Lists.{holds_more}
use Rattle.fb_files.specs.Judging.{HasFirstShots, HasShots}
use Rattle.fb_files.specs.InternalGathers.{EndsFrom, FirstFrom, Gathers, GathersFrom, IsOpened}
use Rattle.fb_run.proofs.Batched.{counted_rows}
use Rattle.fb_run.specs.Decoding.{HaveWholeWindows, all_rows, batches_text, cause_of, last_line, last_line_of}
use Rattle.fb_run.specs.Endings.{decode_account, decode_source}
use Rattle.fb_run.specs.Rows.{Counts}
use Rattle.fb_run.specs.InternalWrites.{EndsReport, WritesBatches, WritesFirstBatches, counts_in}
use Rattle.fb_request.specs.Requests.{Decoding}
use Rattle.fb_exits.specs.declared.ending.Cause.{Cause}
use Rattle.fb_exits.specs.declared.ending.Cause.TheVariants.{Done, Odd, ReadFault}
use Rattle.fb_run.specs.declared.batches.RowCounts.{RowCounts}
use Rattle.fb_files.specs.declared.taking.ShotsEnd.{ShotsEnd}
use Rattle.fb_files.specs.declared.taking.ShotsEnd.TheVariants as end

-- a report ends as one that was read to its end only if its shots were
pub report_to_end : (t : PlanTree) (ended : ShotsEnd) (rows : ℕ) (counts : Counts) (old new : Option (List ℕ)) (cause : Cause)
    → EndsReport t ended rows counts old new cause → IsReadToItsEnd cause → ended ≡ end.End
report_to_end t end.End rows counts old new cause ends reads = refl
report_to_end t (end.Refused fault) rows counts old new cause (same, is) reads = absurd (subst IsReadToItsEnd is reads)
report_to_end t end.ReadFault rows counts old new cause (same, is) reads = absurd (subst IsReadToItsEnd is reads)

-- a report ends by a fault of a read only if its shots did
report_read_fault : (t : PlanTree) (ended : ShotsEnd) (rows : ℕ) (counts : Counts) (old new : Option (List ℕ)) (cause : Cause)
    → EndsReport t ended rows counts old new cause → cause ≡ ReadFault → ended ≡ end.ReadFault
report_read_fault t end.End rows counts old new cause (inl (whole, is)) e = by_both (counts.odd == 0) is
  where
    by_both : (good : Bool) → cause ≡ (if good then Done else Odd) → end.End ≡ end.ReadFault
    by_both true is = absurd cc
    by_both false is = absurd cc
report_read_fault t end.End rows counts old new cause (inr (part, is)) e = absurd cc
report_read_fault t (end.Refused fault) rows counts old new cause (same, is) e = absurd cc
report_read_fault t end.ReadFault rows counts old new cause (same, is) e = refl

-- files fail only in a decode that says so
report_reported : (t : PlanTree) (ended : ShotsEnd) (rows : ℕ) (counts : Counts) (old new : Option (List ℕ)) (cause : Cause)
    → EndsReport t ended rows counts old new cause → (before now : ℕ) → (ended ≢ end.ReadFault → now ≡ before) → before < now → MayFollowReadFault cause
report_reported t end.End rows counts old new cause ends before now kept rose = absurd (omega (arith, kept (λ e. absurd cc), rose))
report_reported t (end.Refused fault) rows counts old new cause ends before now kept rose = absurd (omega (arith, kept (λ e. absurd cc), rose))
report_reported t end.ReadFault rows counts old new cause (same, is) before now kept rose = subst MayFollowReadFault (sym is) tt

pub report_counted : (t : PlanTree) (ended : ShotsEnd) (rows : ℕ) (counts : Counts) (old new : Option (List ℕ)) (cause : Cause)
    → EndsReport t ended rows counts old new cause → (before now : ℕ) → CountsFault (ended ≡ end.ReadFault) before now → CountsReadFault cause before now
report_counted t ended rows counts old new cause ends before now faults = (
  λ is. faults.0 (report_read_fault t ended rows counts old new cause ends is),
  faults.1,
  report_reported t ended rows counts old new cause ends before now faults.2,
)

module _ (request : Decoding) (g : DecodingGraph) (t : PlanTree) (before after : Moment) where
  are_first : (shots : List ShotValue) (ending : Ending) (text : List ℕ) → HasShots request.format g shots ending text → HasFirstShots request.format g shots text
  are_first shots ending text e = ([], ap (λ r. r.shots) e ∙ sym (append-nil shots))

  -- a fault while the rows are written
  pub prefix_of_batches : (left mid : Option (List ℕ)) → IsOpened before.named request.shots left → Appends before.written mid head_text
      → WritesFirstBatches (FirstFrom left request.format g) (EndsFrom left request.format g after.left before.faults after.faults) request g t mid after.written
      → WritesPart (decode_account request g t) (decode_source request g) before after
  prefix_of_batches left mid opened head wrote = record {
    shots = wrote.shots;
    input = inr (holds_opened before.named request.shots left (HasFirstShots request.format g wrote.shots) opened wrote.input);
    answers = wrote.batches;
    right = wrote.answers;
    windows = windows wrote.windows;
    written = inl (appends_after head_text before.written mid after.written (batches_text request.trace 0 wrote.batches) head wrote.written);
  }
    where
      windows : HaveWholeWindows request wrote.shots wrote.batches ⊎ EndsFrom left request.format g after.left before.faults after.faults wrote.shots
          → HaveWholeWindows request wrote.shots wrote.batches ⊎ EndAfter (decode_source request g) before after wrote.shots
      windows (inl full) = inl full
      windows (inr ends) = inr (end_after (decode_source request g) before after wrote.shots ends.ended
          (gathers_opened before.named request.shots left request.format g after.left wrote.shots ends.ended opened ends.gathers) ends.rises)

  -- by a decode of all shots
  ends_by : (counts : Counts) (cause : Cause) → cause ≡ cause_of counts → WritesWhole (decode_account request g t) (decode_source request g) before after cause
      → TextEnds (decode_account request g t) (decode_source request g) before after cause
  ends_by counts cause e wrote = by_odd (counts.odd == 0) e
    where
      by_odd : (no_odd : Bool) → cause ≡ (if no_odd then Done else Odd) → TextEnds (decode_account request g t) (decode_source request g) before after cause
      by_odd true is = rw is (rw is at wrote)
      by_odd false is = rw is (rw is at wrote)

  pub ends_on : (opened_left mid last : Option (List ℕ)) (ended : ShotsEnd) (tally : RowCounts) (cause : Cause) → IsOpened before.named request.shots opened_left
      → Appends before.written mid head_text
      → WritesBatches (λ shots. GathersFrom opened_left request.format g after.left shots ended) request g t mid last tally
      → EndsReport t ended (tally.best + tally.odd) (counts_in tally) last after.written cause
      → TextEnds (decode_account request g t) (decode_source request g) before after cause
  ends_on opened_left mid last ended tally cause opened head wrote report =
      go ended (gathers_opened before.named request.shots opened_left request.format g after.left wrote.shots ended opened wrote.input) report
    where
      prefix : Appends before.written last (head_text ++ batches_text request.trace 0 wrote.batches)
      prefix = Appends-trans before.written mid last head_text (batches_text request.trace 0 wrote.batches) head wrote.written

      same_line : last_line t (tally.best + tally.odd) (counts_in tally) ≡ last_line_of t wrote.batches
      same_line = ap (λ n. last_line t n (counts_in tally)) (counted_rows tally (all_rows wrote.batches) wrote.counts)
          ∙ ap (λ c. last_line t (length (all_rows wrote.batches)) c) wrote.counts

      go : (e : ShotsEnd) → Gathers before.named request.shots request.format g after.left wrote.shots e
          → EndsReport t e (tally.best + tally.odd) (counts_in tally) last after.written cause
          → TextEnds (decode_account request g t) (decode_source request g) before after cause
      go end.End held (inl (all, is)) = ends_by (counts_in tally) cause is (record {
        shots = wrote.shots;
        input = held;
        answers = wrote.batches;
        right = wrote.answers;
        written = Appends-trans before.written last after.written (head_text ++ batches_text request.trace 0 wrote.batches) _ prefix (subst (Appends last after.written) same_line all);
        ends = is ∙ ap cause_of wrote.counts;
      })
      go end.End held (inr (part, is)) = rw is (record {
        shots = wrote.shots;
        input = inr (holds_more before.named request.shots _ _ (are_first wrote.shots at_end) held);
        answers = wrote.batches;
        right = wrote.answers;
        windows = inr (inl held);
        written = inr (
          held,
          appends_after head_text before.written mid after.written (batches_text request.trace 0 wrote.batches ++ last_line_of t wrote.batches) head
              (prefix_second mid last after.written (batches_text request.trace 0 wrote.batches) (last_line_of t wrote.batches) wrote.written (subst (AppendsPrefix last after.written) same_line part)),
        );
      })
      go (end.Refused fault) held (same, is) = rw is (record {
        shots = wrote.shots;
        input = held.0;
        place = held.1;
        answers = wrote.batches;
        right = wrote.answers;
        written = rw same prefix;
      })
      go end.ReadFault held (same, is) = rw is (inr (record {
        shots = wrote.shots;
        input = held;
        answers = wrote.batches;
        right = wrote.answers;
        written = rw same prefix;
      }))
