-- How a check of rows ends.
use Rattle.std.proofs.Common.{◌≡◌, ℕ, ◌==◌, ◌&&◌, inl, inr, Bool, true, false, if◌then◌else◌, ◌≢◌, ◌<◌, List, [], ◌++◌, length, Option, IfSome, refl, sym, ap, subst, ◌∙◌, append-nil, arith}
use Rattle.std.proofs.KnownBytes.{Appends-nil, Appends-trans}
use Rattle.fb_graph.specs.Limits.{DecodingGraph, ShotValue}
use Rattle.fb_graph.specs.declared.parts.Row.{Row}
use Rattle.fb_ports.specs.Causes.{Appends, AppendsPrefix, CountsFault}
use Rattle.fb_ports.proofs.Onward.{prefix_second}
use Rattle.fb_shots.specs.Shots.{at_end}
use Rattle.fb_request.specs.declared.format.Format.{Format}
use Rattle.fb_shots.specs.Streams.{Stream, fresh}
use Rattle.fb_check.specs.CheckEndings.{check_account, check_source}
use Rattle.fb_exits.specs.TextEnds.{FirstOf, TextEnds, WritesPart, WritesWhole}
use Rattle.fb_check.specs.Checks.{bad_count, check_cause, check_head, check_last, verdict_lines}
use Rattle.fb_exits.specs.Ends.{CountsReadFault, IsReadToItsEnd, MayFollowReadFault}
use Rattle.fb_check.specs.InternalJudges.{EndsCheck, JudgesAll, JudgesFirst, JudgesInto}
use Rattle.fb_exits.proofs.InText.{appends_after}
use Rattle.fb_files.specs.Judging.{HasFirstShots, HasShots, Named, most_shots}
use Rattle.fb_files.specs.InternalGathers.{FirstFrom, Gathers, GathersFrom, IsOpened}
use Rattle.fb_files.specs.Moments.{Moment}
use Rattle.fb_request.specs.Requests.{Checking}
use Rattle.fb_check.specs.declared.checking.Judged.{Judged}
use Rattle.fb_exits.specs.declared.ending.Cause.{Cause}
use Rattle.fb_exits.specs.declared.ending.Cause.TheVariants.{Bad, Done, NoMemory, ReadFault}
use Rattle.fb_files.specs.declared.taking.ShotsEnd.{ShotsEnd}
use Rattle.fb_files.specs.declared.taking.ShotsEnd.TheVariants as end
use Rattle.fb_files.proofs.Lists.{holds_more}
use Rattle.fb_files.specs.Taking.{GivesShots}
use Rattle.fb_files.proofs.Gathered.{first_of_none, gathers_opened, given_first, holds_opened}
use Rattle.fb_check.proofs.Lines.{IsJudging}

-- A stream has given `shots`, and those that have a row are judged.
pub record IsChecking (g : DecodingGraph) (rows : List Row) (start now : Stream) (before after out new : Option (List ℕ)) (pending : List ℕ) (count bad : ℕ) : Type 0 where
  pub shots : List ShotValue
  pub gives : GivesShots start now before after shots
  pub judging : IsJudging g rows out new pending shots bad
  pub many : count ≡ length shots

module _ (g : DecodingGraph) (rows : List Row) (start now : Stream) (before after out new : Option (List ℕ)) where
  pub judged_first : (pending : List ℕ) (count bad : ℕ) → start ≡ fresh start.format start.graph most_shots
      → IsChecking g rows start now before after out new pending count bad
      → JudgesFirst (FirstFrom before start.format start.graph) g rows out new
  judged_first pending count bad e checking = record {
    shots = checking.shots;
    input = given_first start now before after checking.shots e checking.gives;
    verdicts = checking.judging.verdicts;
    answers = checking.judging.answers;
    written = (checking.judging.flushed, pending, sym checking.judging.text, checking.judging.appended);
  }

  pub judged_at_fault : (last : Option (List ℕ)) (pending : List ℕ) (shots : List ShotValue) (bad : ℕ)
      → IfSome before (HasFirstShots start.format start.graph shots) → IsJudging g rows out new pending shots bad
      → AppendsPrefix new last pending → JudgesFirst (FirstFrom before start.format start.graph) g rows out last
  judged_at_fault last pending shots bad input judging prefix = record {
    shots = shots;
    input = input;
    verdicts = judging.verdicts;
    answers = judging.answers;
    written = subst (AppendsPrefix out last) judging.text (prefix_second out new last judging.flushed pending judging.appended prefix);
  }

  pub judged_into : (Input : List ShotValue → Type 0) (pending : List ℕ) (j : Judged) (checking : IsChecking g rows start now before after out new pending j.shots j.bad)
      → Input checking.shots → JudgesInto Input g rows out new pending j
  judged_into Input pending j checking input = record {
    shots = checking.shots;
    input = input;
    many = checking.many;
    verdicts = checking.judging.verdicts;
    answers = checking.judging.answers;
    bad = checking.judging.counts;
    flushed = checking.judging.flushed;
    appended = checking.judging.appended;
    text = checking.judging.text;
  }

module _ (Input : List ShotValue → Type 0) (g : DecodingGraph) (rows : List Row) (out mid new : Option (List ℕ)) (pending : List ℕ) (j : Judged) where
  pub first_flushed : (First : List ShotValue → Type 0) → ((shots : List ShotValue) → Input shots → First shots)
      → JudgesInto Input g rows out mid pending j → AppendsPrefix mid new pending → JudgesFirst First g rows out new
  first_flushed First more into part = record {
    shots = into.shots;
    input = more into.shots into.input;
    verdicts = into.verdicts;
    answers = into.answers;
    written = subst (AppendsPrefix out new) into.text (prefix_second out mid new into.flushed pending into.appended part);
  }

  pub all_flushed : JudgesInto Input g rows out mid pending j → Appends mid new pending → JudgesAll Input g rows out new j
  all_flushed into rest = record {
    shots = into.shots;
    input = into.input;
    many = into.many;
    verdicts = into.verdicts;
    answers = into.answers;
    bad = into.bad;
    written = subst (Appends out new) into.text (Appends-trans out mid new into.flushed pending into.appended rest);
  }

-- by another input
pub all_more : (A B : List ShotValue → Type 0) (g : DecodingGraph) (rows : List Row) (old new : Option (List ℕ)) (j : Judged)
    → ((shots : List ShotValue) → A shots → B shots) → JudgesAll A g rows old new j → JudgesAll B g rows old new j
all_more A B g rows old new j more all = record {
  shots = all.shots;
  input = more all.shots all.input;
  many = all.many;
  verdicts = all.verdicts;
  answers = all.answers;
  bad = all.bad;
  written = all.written;
}

pub first_more : (A B : List ShotValue → Type 0) (g : DecodingGraph) (rows : List Row) (old new : Option (List ℕ))
    → ((shots : List ShotValue) → A shots → B shots) → JudgesFirst A g rows old new → JudgesFirst B g rows old new
first_more A B g rows old new more first = record {
  shots = first.shots;
  input = more first.shots first.input;
  verdicts = first.verdicts;
  answers = first.answers;
  written = first.written;
}

-- no shot was taken
pub none_judged : (left : Option (List ℕ)) (format : Format) (g : DecodingGraph) (rows : List Row) (out : Option (List ℕ))
    → JudgesFirst (FirstFrom left format g) g rows out out
none_judged left format g rows out =
    record { shots = []; input = first_of_none left format g; verdicts = []; answers = tt; written = ([], [], refl, Appends-nil out) }

-- a check ends as one that was read to its end only if its shots were
pub check_to_end : (ended : ShotsEnd) (lines shots bad : ℕ) (old new : Option (List ℕ)) (cause : Cause) → EndsCheck ended lines shots bad old new cause
    → IsReadToItsEnd cause → ended ≡ end.End
check_to_end end.End lines shots bad old new cause ends reads = refl
check_to_end (end.Refused fault) lines shots bad old new cause (same, is) reads = absurd (subst IsReadToItsEnd is reads)
check_to_end end.ReadFault lines shots bad old new cause (same, is) reads = absurd (subst IsReadToItsEnd is reads)

-- the last line doesn't end a check for want of memory
pub never_memory : (ended : ShotsEnd) (lines shots bad : ℕ) (old new : Option (List ℕ)) (cause : Cause) → EndsCheck ended lines shots bad old new cause
    → cause ≢ NoMemory
never_memory end.End lines shots bad old new cause (inl (whole, is)) e = by_both (bad == 0 && lines == shots) is
  where
    by_both : (good : Bool) → cause ≡ (if good then Done else Bad bad) → ⊥
    by_both true is = cc
    by_both false is = cc
never_memory end.End lines shots bad old new cause (inr (part, is)) e = cc
never_memory (end.Refused fault) lines shots bad old new cause (same, is) e = cc
never_memory end.ReadFault lines shots bad old new cause (same, is) e = cc

-- a check ends by a fault of a read only if its shots did
check_read_fault : (ended : ShotsEnd) (lines shots bad : ℕ) (old new : Option (List ℕ)) (cause : Cause) → EndsCheck ended lines shots bad old new cause
    → cause ≡ ReadFault → ended ≡ end.ReadFault
check_read_fault end.End lines shots bad old new cause (inl (whole, is)) e = by_both (bad == 0 && lines == shots) is
  where
    by_both : (good : Bool) → cause ≡ (if good then Done else Bad bad) → end.End ≡ end.ReadFault
    by_both true is = absurd cc
    by_both false is = absurd cc
check_read_fault end.End lines shots bad old new cause (inr (part, is)) e = absurd cc
check_read_fault (end.Refused fault) lines shots bad old new cause (same, is) e = absurd cc
check_read_fault end.ReadFault lines shots bad old new cause (same, is) e = refl

-- files fail only in a check that says so
check_reported : (ended : ShotsEnd) (lines shots bad : ℕ) (old new : Option (List ℕ)) (cause : Cause) → EndsCheck ended lines shots bad old new cause
    → (before now : ℕ) → (ended ≢ end.ReadFault → now ≡ before) → before < now → MayFollowReadFault cause
check_reported end.End lines shots bad old new cause ends before now kept rose = absurd (omega (arith, kept (λ e. absurd cc), rose))
check_reported (end.Refused fault) lines shots bad old new cause ends before now kept rose = absurd (omega (arith, kept (λ e. absurd cc), rose))
check_reported end.ReadFault lines shots bad old new cause (same, is) before now kept rose = subst MayFollowReadFault (sym is) tt

pub check_counted : (ended : ShotsEnd) (lines shots bad : ℕ) (old new : Option (List ℕ)) (cause : Cause) → EndsCheck ended lines shots bad old new cause
    → (before now : ℕ) → CountsFault (ended ≡ end.ReadFault) before now → CountsReadFault cause before now
check_counted ended lines shots bad old new cause ends before now counts = (
  λ is. counts.0 (check_read_fault ended lines shots bad old new cause ends is),
  counts.1,
  check_reported ended lines shots bad old new cause ends before now counts.2,
)

module _ (request : Checking) (g : DecodingGraph) (rows : List Row) (before after : Moment) where
  pub checks_first : (mid : Option (List ℕ)) → Appends before.written mid check_head
      → JudgesFirst (FirstOf before.named request.shots request.format g) g rows mid after.written
      → WritesPart (check_account g rows) (check_source request g) before after
  checks_first mid head first = record {
    shots = first.shots;
    input = first.input;
    answers = first.verdicts;
    right = first.answers;
    windows = inl tt;
    written = inl (appends_after check_head before.written mid after.written (verdict_lines 0 first.verdicts) head first.written);
  }

  checks_by : (lines shots bad : ℕ) (cause : Cause) → cause ≡ check_cause lines shots bad
      → WritesWhole (check_account g rows) (check_source request g) before after cause
      → TextEnds (check_account g rows) (check_source request g) before after cause
  checks_by lines shots bad cause e wrote = by_both (bad == 0 && lines == shots) e
    where
      by_both : (good : Bool) → cause ≡ (if good then Done else Bad bad) → TextEnds (check_account g rows) (check_source request g) before after cause
      by_both true is = rw is (rw is at wrote)
      by_both false is = rw is (rw is at wrote)

  pub checks_on : (mid last : Option (List ℕ)) (j : Judged) (lines : ℕ) (cause : Cause) → lines ≡ length rows → Appends before.written mid check_head
      → JudgesAll (λ shots. Gathers before.named request.shots request.format g after.left shots j.end) g rows mid last j
      → EndsCheck j.end lines j.shots j.bad last after.written cause → TextEnds (check_account g rows) (check_source request g) before after cause
  checks_on mid last j lines cause many head all ends = go j.end all.input ends
    where
      prefix : Appends before.written last (check_head ++ verdict_lines 0 all.verdicts)
      prefix = Appends-trans before.written mid last check_head (verdict_lines 0 all.verdicts) head all.written

      same_line : check_last lines j.shots j.bad ≡ check_last (length rows) (length all.shots) (bad_count all.verdicts)
      same_line = ap (λ (n : ℕ). check_last n j.shots j.bad) many ∙ ap (λ (n : ℕ). check_last (length rows) n j.bad) all.many
          ∙ ap (λ (n : ℕ). check_last (length rows) (length all.shots) n) all.bad

      same_cause : check_cause lines j.shots j.bad ≡ check_cause (length rows) (length all.shots) (bad_count all.verdicts)
      same_cause = ap (λ (n : ℕ). check_cause n j.shots j.bad) many ∙ ap (λ (n : ℕ). check_cause (length rows) n j.bad) all.many
          ∙ ap (λ (n : ℕ). check_cause (length rows) (length all.shots) n) all.bad

      are_first : (text : List ℕ) → HasShots request.format g all.shots at_end text → HasFirstShots request.format g all.shots text
      are_first text e = ([], ap (λ r. r.shots) e ∙ sym (append-nil all.shots))

      go : (ended : ShotsEnd) → Gathers before.named request.shots request.format g after.left all.shots ended
          → EndsCheck ended lines j.shots j.bad last after.written cause → TextEnds (check_account g rows) (check_source request g) before after cause
      go end.End held (inl (whole, is)) = checks_by lines j.shots j.bad cause is (record {
        shots = all.shots;
        input = held;
        answers = all.verdicts;
        right = all.answers;
        written = Appends-trans before.written last after.written (check_head ++ verdict_lines 0 all.verdicts) _ prefix
            (subst (Appends last after.written) same_line whole);
        ends = is ∙ same_cause;
      })
      go end.End held (inr (part, is)) = rw is (record {
        shots = all.shots;
        input = inr (holds_more before.named request.shots _ _ are_first held);
        answers = all.verdicts;
        right = all.answers;
        windows = inl tt;
        written = inr (
          held,
          appends_after check_head before.written mid after.written (verdict_lines 0 all.verdicts ++ _) head
              (prefix_second mid last after.written (verdict_lines 0 all.verdicts) _ all.written (subst (AppendsPrefix last after.written) same_line part)),
        );
      })
      go (end.Refused fault) held (same, is) = rw is (record {
        shots = all.shots;
        input = held.0;
        place = held.1;
        answers = all.verdicts;
        right = all.answers;
        written = rw same prefix;
      })
      go end.ReadFault held (same, is) = rw is (inr (record {
        shots = all.shots;
        input = held;
        answers = all.verdicts;
        right = all.answers;
        written = rw same prefix;
      }))

-- what the file of a name gives, by what the opened file gives
module _ (named : Named) (name : List ℕ) (left : Option (List ℕ)) (format : Format) (g : DecodingGraph) (rows : List Row) (old new : Option (List ℕ)) where
  pub judged_opened : (later : Option (List ℕ)) (j : Judged) → IsOpened named name left
      → JudgesAll (λ shots. GathersFrom left format g later shots j.end) g rows old new j
      → JudgesAll (λ shots. Gathers named name format g later shots j.end) g rows old new j
  judged_opened later j opened all = all_more (λ shots. GathersFrom left format g later shots j.end) (λ shots. Gathers named name format g later shots j.end) g rows
      old new j (λ shots p. gathers_opened named name left format g later shots j.end opened p) all

  pub first_opened : IsOpened named name left → JudgesFirst (FirstFrom left format g) g rows old new → JudgesFirst (FirstOf named name format g) g rows old new
  first_opened opened first = first_more (FirstFrom left format g) (FirstOf named name format g) g rows old new
      (λ shots p. inr (holds_opened named name left (HasFirstShots format g shots) opened p)) first
