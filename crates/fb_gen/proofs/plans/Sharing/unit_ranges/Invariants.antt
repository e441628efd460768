use Rattle.std.proofs.Common.{◌≡◌, [], ◌∷◌, map}
use Rattle.std.specs.List.{range_with_len}
use Rattle.fb_gen.specs.TimePlan.{unit_range}
use Rattle.fb_gen.proofs.plans.Sharing.unit_ranges.Given as goal

abbrev pub invariant-loop-j : goal.invariant-loop-j
invariant-loop-j l = map (λ ranges. ranges.items) l.found.items
    ≡ map (λ j. unit_range l.self.distance l.self.rounds l.self.units j ∷ []) (range_with_len 0 l.j)
