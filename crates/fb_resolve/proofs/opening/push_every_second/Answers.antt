use Rattle.fb_links.specs.declared.cycle.CycleStep.{CycleStep}
use Rattle.fb_resolve.proofs.Rings.{push_mapped, pushes_begin}
use Rattle.fb_resolve.proofs.opening.push_every_second.Goals as goal

pub loop-step-init : goal.loop-step-init
loop-step-init c =
    pushes_begin _ _ _ _ c.args.place c.args.ids.now.items c.split_at.ensures.front c.split_at.ensures.back

pub loop-step-preserved : goal.loop-step-preserved
loop-step-preserved c =
    push_mapped (λ (s : CycleStep). s.link) c.split_at.result.1.now _ c.loop-step.ids.items c.push_if.new.ids.items _ _ c.loop-step.step-index c.loop-step.is_second
    c.loop-step-test.true c.in_ok-push_if.ensures c.loop-step.invariant

pub loop-step-2-preserved : goal.loop-step-2-preserved
loop-step-2-preserved c =
    push_mapped (λ (s : CycleStep). s.link) c.split_at.result.0.now _ c.loop-step-2.ids.items c.push_if-in-loop-step-2.new.ids.items _ _ c.loop-step-2.step-index c.loop-step-2.is_second
    c.loop-step-2-test.true c.in_ok-push_if-2.ensures c.loop-step-2.invariant
