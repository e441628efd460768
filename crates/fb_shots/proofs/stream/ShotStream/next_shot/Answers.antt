use Rattle.std.proofs.Common.{◌≡◌, ℕ, Option, Some, None, Result, Ok, ◌∙◌}
use Rattle.fb_ports.specs.Causes.{CountsFault}
use Rattle.fb_shots.specs.declared.answer.Step.{Step}
use Rattle.fb_shots.specs.declared.answer.Step.TheVariants as step
use Rattle.fb_shots.proofs.Taking.{then_answers, then_takes}
use Rattle.fb_shots.proofs.stream.ShotStream.next_shot.Goals as goal

-- a turn without a step met no fault
no_fault : {E : Type 0} (found : Option Step) (f f' : ℕ) → CountsFault (◌≡◌ {A = Result (Option Step) E} (Ok found) (Ok (Some step.ReadFault))) f f' → found ≡ None
    → f' ≡ f
no_fault found f f' counts none = counts.2 (λ is. cc)

pub returns-in-Some-clause-step : goal.returns-in-Some-clause-step
returns-in-Some-clause-step g c = then_answers _ _ _ _ _ _ _ c.loop-step.invariant.0 (rw c.in-Some.is at c.in_ok-step.ensures.step)

pub loop-step-preserved : goal.loop-step-preserved
loop-step-preserved g c = (
  then_takes _ _ _ _ _ _ c.loop-step.invariant.0 (rw c.in_default.is at c.in_ok-step.ensures.step).0,
  no_fault _ _ _ c.in_ok-step.ensures.faults c.in_default.is ∙ c.loop-step.invariant.1,
  c.in_ok-step.ensures.names ∙ c.loop-step.invariant.2,
  c.in_ok-step.ensures.asks ∙ c.loop-step.invariant.3,
)
