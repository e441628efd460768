use Rattle.std.proofs.Common.{◌≡◌, take}
use Rattle.fb_links.specs.Walks.{walk_weight}
use Rattle.fb_links.proofs.steps.weight_of.Given as goal

abbrev pub invariant-loop-step : goal.invariant-loop-step
invariant-loop-step l = l.weight ≡ walk_weight (take l.step-index l.steps)
