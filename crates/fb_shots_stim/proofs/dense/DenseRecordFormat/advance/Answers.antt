use Rattle.std.proofs.Common.{ℕ, take, drop, subst, sym, ◌∙◌}
use Rattle.fb_records.specs.declared.answer.Next.TheVariants as next
use Rattle.fb_shots_stim.specs.Shots.{places_from}
use Rattle.fb_shots_stim.specs.Text01.{is_one, records_01, prefix_01}
use Rattle.fb_shots_stim.specs.InternalAnswers.{Answers01}
use Rattle.fb_shots_stim.specs.declared.dense.Step.TheVariants.{Line, NotYet, End, Refused}
use Rattle.fb_shots_stim.proofs.Lemmas01.{rest_right}
use Rattle.fb_shots_stim.proofs.ShotLemmas.{shots_01, given_shot}
use Rattle.fb_shots_stim.proofs.dense.DenseRecordFormat.advance.Goals as goal

pub returns-in-NotYet-clause-ok : goal.returns-in-NotYet-clause-ok
returns-in-NotYet-clause-ok c =
    let at = c.leading_bits-good.ensures in
    let rest = c.args.rest.now in
    subst (λ (n : ℕ). Answers01 n rest c.args.finished rest next.NotYet) c.self.view_is
    (rest_right _ _ _ _ NotYet at.bits at.most at.within at.stops (sym c.in-NotYet.is ∙ c.step_at.ensures))

pub returns-in-End-clause-ok : goal.returns-in-End-clause-ok
returns-in-End-clause-ok c =
    let at = c.leading_bits-good.ensures in
    let rest = c.args.rest.now in
    subst (λ (n : ℕ). Answers01 n rest c.args.finished rest next.End) c.self.view_is
    (rest_right _ _ _ _ End at.bits at.most at.within at.stops (sym c.in-End.is ∙ c.step_at.ensures))

pub returns-in-Refused-clause-refused : goal.returns-in-Refused-clause-refused
returns-in-Refused-clause-refused c =
    let at = c.leading_bits-good.ensures in
    let rest = c.args.rest.now in
    subst (λ (n : ℕ). Answers01 n rest c.args.finished rest (next.Refused c.in-Refused.kind)) c.self.view_is
    (rest_right _ _ _ _ (Refused c.in-Refused.kind) at.bits at.most at.within at.stops (sym c.in-Refused.is ∙ c.step_at.ensures))

pub returns-in_ok-shot-in-Line-clause-ok : goal.returns-in_ok-shot-in-Line-clause-ok
returns-in_ok-shot-in-Line-clause-ok c =
    let at = c.leading_bits-good.ensures in
    let rest = c.args.rest.now in
    rw c.in_ok-shot-in-Line.ensures
    (subst (λ (n : ℕ). Answers01 n rest c.args.finished (drop c.in-Line.used rest) (next.Shot (places_from is_one 0 (take c.leading_bits-good.result rest)))) c.self.view_is
    (rest_right _ _ _ _ (Line c.in-Line.used) at.bits at.most at.within at.stops (sym c.in-Line.is ∙ c.step_at.ensures)))

pub returns-in_ok-shot-in-Line-clause-shot : goal.returns-in_ok-shot-in-Line-clause-shot
returns-in_ok-shot-in-Line-clause-shot c =
    let n = c.args.self.now in
    given_shot n (records_01 n) (prefix_01 n) _ _ _ (shots_01 n) (returns-in_ok-shot-in-Line-clause-ok c).0
