use Rattle.std.proofs.Common.{◌∙◌, ◌<◌, ap, arith, get_or, length, set}
use Rattle.std.proofs.lemmas.List.{get_or_default}
use Rattle.std.proofs.lemmas.List.Edits.{map_over_more}
use Rattle.fb_links.specs.declared.walk.Step.{Step}
use Rattle.fb_links.specs.Walks.{turned_step}
use Rattle.fb_links.proofs.steps.turn.Goals as goal

pub loop-step-preserved : goal.loop-step-preserved
loop-step-preserved c =
    let none : Step = record { from = 0; to = 0; edge = 0; weight = 0 } in
    let step = get_or c.loop-step.step-items c.loop-step.step-index none in
    let within : c.loop-step.step-index < length c.loop-step.step-items = omega arith in
    ap (set c.loop-step.step-items c.loop-step.step-index) c.turned_step.ensures
    ∙ map_over_more turned_step c.reverse.new.self c.loop-step.step-items c.loop-step.step-index step c.loop-step-test.true
    c.loop-step.invariant (get_or_default c.loop-step.step-items c.loop-step.step-index none step within)
