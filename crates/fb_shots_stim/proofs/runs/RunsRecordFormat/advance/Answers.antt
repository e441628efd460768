use Rattle.std.proofs.Common.{◌+◌, ℕ, drop, subst, ◌∙◌, arith}
use Rattle.fb_records.specs.declared.answer.Next.TheVariants as next
use Rattle.fb_shots_stim.specs.declared.answer.Kind.TheVariants.{ShortRecord, LongRecord}
use Rattle.fb_shots_stim.specs.Shots.{IsShotOf}
use Rattle.fb_shots_stim.specs.InternalAnswers.{AnswersR8}
use Rattle.fb_shots_stim.proofs.LemmasR8.{run_past, run_long, run_hit, run_shot, run_is_shot, run_open, run_over, run_short}
use Rattle.fb_shots_stim.proofs.runs.RunsRecordFormat.advance.Goals as goal
use Rattle.fb_shots_stim.proofs.runs.RunsRecordFormat.advance.Goals.{then-byte, else-byte+else-next-detectors-2+in_ok-push}

pub returns-then-next-detectors-clause-refused : goal.returns-then-next-detectors-clause-refused
returns-then-next-detectors-clause-refused c =
    let rest = c.args.rest.now in
    subst (λ (n : ℕ). AnswersR8 n rest c.args.finished rest (next.Refused LongRecord)) (c.from-detectors.ensures ∙ c.self.view_is)
    (run_past _ _ _ _ rest c.args.finished c.loop-begun.invariant c.loop-begun-test.true (omega arith))

pub returns-then-next-detectors-2-clause-ok : goal.returns-then-next-detectors-2-clause-ok
returns-then-next-detectors-2-clause-ok c =
    let rest = c.args.rest.now in
    let at = c.loop-begun.begun in
    rw (c.from_vec.ensures, c.replace-named.ensures.value)
    (subst (λ (n : ℕ). AnswersR8 n rest c.args.finished (drop (at.seen + 1) rest) (next.Shot at.named.items)) (c.from-detectors.ensures ∙ c.self.view_is)
    (run_shot _ _ _ _ rest c.args.finished c.loop-begun.invariant c.loop-begun-test.true c.if-byte.false (omega arith)))

pub returns-then-next-detectors-2-clause-shot : goal.returns-then-next-detectors-2-clause-shot
returns-then-next-detectors-2-clause-shot c =
    let at = c.loop-begun.begun in
    rw (c.from_vec.ensures, c.replace-named.ensures.value)
    (subst (λ (n : ℕ). IsShotOf n at.named.items) (c.from-detectors.ensures ∙ c.self.view_is)
    (run_is_shot _ _ _ _ c.args.rest.now c.loop-begun.invariant))

pub loop-begun-preserved : goal.loop-begun-preserved
loop-begun-preserved c =
    let rest = c.args.rest.now in
    elim c.if-byte.branch [
      | then-byte w ↦ rw w.begun-is (run_long _ _ _ _ _ rest c.loop-begun.invariant c.loop-begun-test.true (omega arith) w.if-byte.true (omega arith))
      | else-byte+else-next-detectors-2+in_ok-push w ↦
          rw (w.begun-is, w.in_ok-push.ensures.items) (run_hit _ _ _ _ _ rest c.loop-begun.invariant c.loop-begun-test.true (omega arith) w.if-byte.false (omega arith))
    ]

pub returns-then-not-finished-clause-ok : goal.returns-then-not-finished-clause-ok
returns-then-not-finished-clause-ok c =
    let rest = c.args.rest.now in
    subst (λ (n : ℕ). AnswersR8 n rest c.args.finished rest next.NotYet) (c.from-detectors.ensures ∙ c.self.view_is)
    (run_open _ _ _ _ rest c.args.finished c.loop-begun.invariant c.loop-begun-test.false c.if-not-finished.true)

pub returns-then-begun-eq0-clause-ok : goal.returns-then-begun-eq0-clause-ok
returns-then-begun-eq0-clause-ok c =
    let rest = c.args.rest.now in
    subst (λ (n : ℕ). AnswersR8 n rest c.args.finished rest next.End) (c.from-detectors.ensures ∙ c.self.view_is)
    (run_over _ _ _ _ rest c.args.finished c.loop-begun.invariant c.loop-begun-test.false c.if-not-finished.false c.if-begun-eq0.true)

pub returns-else-begun-eq0-clause-refused : goal.returns-else-begun-eq0-clause-refused
returns-else-begun-eq0-clause-refused c =
    let rest = c.args.rest.now in
    subst (λ (n : ℕ). AnswersR8 n rest c.args.finished rest (next.Refused ShortRecord)) (c.from-detectors.ensures ∙ c.self.view_is)
    (run_short _ _ _ _ rest c.args.finished c.loop-begun.invariant c.loop-begun-test.false c.if-not-finished.false c.if-begun-eq0.false)
