use Rattle.std.proofs.Common.{◌≡◌, ◌+◌, ◌∙◌, ◌≤◌, ℕ, [], ◌∷◌, ◌++◌, Bool, true, false, cond, refl, sym, ap, subst, rules, arith}
use Rattle.fb_shots.specs.Streams.{Stream}
use Rattle.fb_files.specs.Taking.{GivesShots}
use Rattle.fb_files.proofs.Gathered.{gathered_all, gathered_before, gathered_part, given_count, given_first, given_fits, gives_next, gives_none}
use Rattle.fb_check.proofs.Lines.{IsJudging, judging_begins, judging_moved, judging_next}
use Rattle.fb_check.proofs.Checked.{judged_at_fault, judged_first, judged_into}
use Rattle.fb_check.proofs.checking.judge_into.Goals as goal
use Rattle.fb_check.proofs.checking.judge_into.Goals.{In-Ok-judge_next}

cond-le-one : (b : Bool) → cond {A = ℕ} b 1 0 ≤ 1
cond-le-one true = omega arith
cond-le-one false = omega arith

-- the shots with one more, and their lines
given_at : (g : _) (c : In-Ok-judge_next g) → GivesShots c.args.stream.now c.next_shot.new.self (g.F.Files.left c.args.files.now)
    (g.F.Files.left c.next_shot.new.files) (c.loop-step.invariant.0.shots ++ c.in-Shot.shot ∷ [])
given_at g c = gives_next c.args.stream.now c.loop-step.stream c.next_shot.new.self (g.F.Files.left c.args.files.now) (g.F.Files.left c.loop-step.files)
    (g.F.Files.left c.next_shot.new.files) c.loop-step.invariant.0.shots c.in-Shot.shot c.loop-step.invariant.0.gives (rw c.in-Shot.is at c.in-Ok.ensures.step)

judging_at : (g : _) (c : In-Ok-judge_next g) → IsJudging c.args.judge.now c.args.rows.now (g.O.Sink.taken c.args.out.now) (g.O.Sink.taken c.loop-step.out)
    c.judge_next.new.outbox.text (c.loop-step.invariant.0.shots ++ c.in-Shot.shot ∷ []) (c.loop-step.bad + cond c.in-Ok-judge_next.is_bad 1 0)
judging_at g c = judging_next c.args.judge.now c.args.rows.now (g.O.Sink.taken c.args.out.now) (g.O.Sink.taken c.loop-step.out) c.loop-step.outbox.text
    c.judge_next.new.outbox.text c.loop-step.invariant.0.shots c.loop-step.shots c.loop-step.bad c.in-Shot.shot c.in-Ok-judge_next.is_bad
    c.loop-step.invariant.0.many c.loop-step.invariant.0.judging (rw c.loop-step.invariant.7 at c.in-Ok-judge_next.ensures.line)

pub loop-step-init : goal.loop-step-init
loop-step-init g c = (
  record {
    shots = [];
    gives = gives_none c.args.stream.now (g.F.Files.left c.args.files.now);
    judging = judging_begins c.args.judge.now c.args.rows.now (g.O.Sink.taken c.args.out.now) _ c.requires.empty;
    many = refl;
  },
  omega arith,
  sym (ap (λ (s : Stream). s.given) c.requires.fresh),
  given_fits c.args.stream.now c.args.stream.now (g.F.Files.left c.args.files.now) (g.F.Files.left c.args.files.now) [] c.requires.fresh
      (gives_none c.args.stream.now (g.F.Files.left c.args.files.now)),
  refl,
  refl,
  refl,
  refl,
)

pub returns-in_default-clause-first : goal.returns-in_default-clause-first
returns-in_default-clause-first g c =
    judged_first c.args.judge.now c.args.rows.now c.args.stream.now c.loop-step.stream (g.F.Files.left c.args.files.now) (g.F.Files.left c.loop-step.files)
    (g.O.Sink.taken c.args.out.now) (g.O.Sink.taken c.loop-step.out) c.loop-step.outbox.text c.loop-step.shots c.loop-step.bad c.requires.fresh
    c.loop-step.invariant.0

pub returns-in_default-judge_next-clause-first : goal.returns-in_default-judge_next-clause-first
returns-in_default-judge_next-clause-first g c =
    judged_first c.args.judge.now c.args.rows.now c.args.stream.now c.loop-step.stream (g.F.Files.left c.args.files.now) (g.F.Files.left c.loop-step.files)
    (g.O.Sink.taken c.args.out.now) (g.O.Sink.taken c.loop-step.out) c.loop-step.outbox.text c.loop-step.shots c.loop-step.bad c.requires.fresh
    c.loop-step.invariant.0

pub returns-in_default-flush_if_full-clause-first : goal.returns-in_default-flush_if_full-clause-first
returns-in_default-flush_if_full-clause-first g c =
    let at = (goal.at.returns-in_default-flush_if_full-clause-first g c).In-Ok-judge_next in
    judged_at_fault c.args.judge.now c.args.rows.now c.args.stream.now c.next_shot.new.self (g.F.Files.left c.args.files.now) (g.F.Files.left c.next_shot.new.files)
    (g.O.Sink.taken c.args.out.now) (g.O.Sink.taken c.loop-step.out) (g.O.Sink.taken c.flush_if_full.new.out) c.judge_next.new.outbox.text _ _
    (given_first c.args.stream.now c.next_shot.new.self (g.F.Files.left c.args.files.now) (g.F.Files.left c.next_shot.new.files) _ c.requires.fresh
    (given_at g at))
    (judging_at g at) c.in_default-flush_if_full.ensures.prefix

pub loop-step-preserved : goal.loop-step-preserved
loop-step-preserved g c =
    let at = (goal.at.loop-step-preserved g c).In-Ok-judge_next in
    let unchanged : g.F.Files.faults c.next_shot.new.files ≡ g.F.Files.faults c.loop-step.files = search rules in
    let shots = c.loop-step.invariant.0.shots ++ c.in-Shot.shot ∷ [] in
    let left = g.F.Files.left c.args.files.now in
    let later = g.F.Files.left c.next_shot.new.files in
    let fits = given_fits c.args.stream.now c.next_shot.new.self left later shots c.requires.fresh (given_at g at) in
    let more = given_count c.args.stream.now c.next_shot.new.self left later shots c.requires.fresh (given_at g at) in (
      record {
        shots = c.loop-step.invariant.0.shots ++ c.in-Shot.shot ∷ [];
        gives = given_at g at;
        judging = subst (λ (n : ℕ). IsJudging c.args.judge.now c.args.rows.now (g.O.Sink.taken c.args.out.now) (g.O.Sink.taken c.flush_if_full.new.out)
            c.flush_if_full.new.self.text (c.loop-step.invariant.0.shots ++ c.in-Shot.shot ∷ []) (c.loop-step.bad + n)) (sym c.one_if-bad.ensures)
            (judging_moved c.args.judge.now c.args.rows.now (g.O.Sink.taken c.args.out.now) (g.O.Sink.taken c.loop-step.out)
            (g.O.Sink.taken c.flush_if_full.new.out) c.judge_next.new.outbox.text c.flush_if_full.new.self.text (c.loop-step.invariant.0.shots ++ c.in-Shot.shot ∷ [])
            (c.loop-step.bad + cond c.in-Ok-judge_next.is_bad 1 0) (judging_at g at) c.in-Ok-flush_if_full.ensures.ok);
        many = ap (λ (n : ℕ). n + 1) (c.loop-step.invariant.2) ∙ sym (rw c.in-Shot.is at c.in-Ok.ensures.step).counts ∙ more;
      },
      omega (arith, c.loop-step.invariant.1, c.one_if-bad.ensures, cond-le-one c.in-Ok-judge_next.is_bad),
      ap (λ (n : ℕ). n + 1) (c.loop-step.invariant.2) ∙ sym (rw c.in-Shot.is at c.in-Ok.ensures.step).counts,
      fits,
      unchanged ∙ c.loop-step.invariant.4,
      c.in-Ok.ensures.asks ∙ c.loop-step.invariant.5,
      c.in-Ok-flush_if_full.ensures.cause ∙ c.loop-step.invariant.6,
      c.in-Ok-judge_next.ensures.same ∙ c.loop-step.invariant.7,
    )

pub returns-in-End-clause-all : goal.returns-in-End-clause-all
returns-in-End-clause-all g c =
    judged_into c.args.judge.now c.args.rows.now c.args.stream.now c.loop-step.stream (g.F.Files.left c.args.files.now) (g.F.Files.left c.loop-step.files)
    (g.O.Sink.taken c.args.out.now) (g.O.Sink.taken c.loop-step.out) _ c.loop-step.outbox.text _ c.loop-step.invariant.0
    (gathered_all c.args.stream.now c.loop-step.stream (g.F.Files.left c.args.files.now) (g.F.Files.left c.loop-step.files) c.loop-step.invariant.0.shots
    c.requires.fresh c.loop-step.invariant.0.gives c.next_shot.new.self (g.F.Files.left c.next_shot.new.files) (rw c.in-End.is at c.in-Ok.ensures.step))

pub returns-in-Refused-clause-all : goal.returns-in-Refused-clause-all
returns-in-Refused-clause-all g c =
    judged_into c.args.judge.now c.args.rows.now c.args.stream.now c.loop-step.stream (g.F.Files.left c.args.files.now) (g.F.Files.left c.loop-step.files)
    (g.O.Sink.taken c.args.out.now) (g.O.Sink.taken c.loop-step.out) _ c.loop-step.outbox.text _ c.loop-step.invariant.0
    (gathered_before c.args.stream.now c.loop-step.stream (g.F.Files.left c.args.files.now) (g.F.Files.left c.loop-step.files) c.loop-step.invariant.0.shots
    c.requires.fresh c.loop-step.invariant.0.gives c.next_shot.new.self (g.F.Files.left c.next_shot.new.files) c.in-Refused.fault
    (rw c.in-Refused.is at c.in-Ok.ensures.step))

pub returns-in-ReadFault-clause-all : goal.returns-in-ReadFault-clause-all
returns-in-ReadFault-clause-all g c =
    judged_into c.args.judge.now c.args.rows.now c.args.stream.now c.loop-step.stream (g.F.Files.left c.args.files.now) (g.F.Files.left c.loop-step.files)
    (g.O.Sink.taken c.args.out.now) (g.O.Sink.taken c.loop-step.out) _ c.loop-step.outbox.text _ c.loop-step.invariant.0
    (gathered_part c.args.stream.now c.loop-step.stream (g.F.Files.left c.args.files.now) (g.F.Files.left c.loop-step.files) c.loop-step.invariant.0.shots
    c.requires.fresh c.loop-step.invariant.0.gives c.next_shot.new.self (g.F.Files.left c.next_shot.new.files) (rw c.in-ReadFault.is at c.in-Ok.ensures.step))
