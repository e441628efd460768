use Rattle.std.proofs.Common.{◌≡◌, take}
use Rattle.fb_half.specs.InternalBeginnings.{IsStarted}
use Rattle.fb_regions.specs.Paces.{IsAtRest}
use Rattle.fb_half.proofs.start.start.Given as goal

abbrev pub invariant-loop-v : goal.invariant-loop-v
invariant-loop-v l =
    IsStarted (take l.v-index l.own) l.regions.nodes l.blossoms l.matching
    × (l.regions.scope ≡ l.initial.regions.scope) × (IsAtRest l.initial.regions → IsAtRest l.regions)
