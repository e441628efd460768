use Rattle.std.proofs.Common.{◌≡◌, ◌++◌, [], drop, map}
use Rattle.fb_laws.specs.OpenedLinks.{every_second, round_from}
use Rattle.fb_resolve.proofs.Rings.{seconds}
use Rattle.fb_resolve.proofs.opening.push_every_second.Given as goal

abbrev pub invariant-loop-step : goal.invariant-loop-step
invariant-loop-step l =
    l.ids.items ++ seconds l.is_second (drop l.step-index (map (λ s. s.link) l.after) ++ map (λ s. s.link) l.before)
    ≡ l.fn.ids.items ++ every_second (round_from l.place (map (λ s. s.link) l.cycle))

abbrev pub invariant-loop-step-2 : goal.invariant-loop-step-2
invariant-loop-step-2 l =
    l.ids.items ++ seconds l.is_second (drop l.step-index (map (λ s. s.link) l.before) ++ [])
    ≡ l.fn.ids.items ++ every_second (round_from l.place (map (λ s. s.link) l.cycle))
