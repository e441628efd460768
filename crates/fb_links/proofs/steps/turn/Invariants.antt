use Rattle.std.proofs.Common.{◌≡◌, ◌++◌, drop, map, take}
use Rattle.fb_links.specs.Walks.{turned_step}
use Rattle.fb_links.proofs.steps.turn.Given as goal

abbrev pub invariant-loop-step : goal.invariant-loop-step
invariant-loop-step l =
    l.step-items ≡ map turned_step (take l.step-index l.initial.step-items) ++ drop l.step-index l.initial.step-items
