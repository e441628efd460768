use Rattle.std.proofs.Common.{◌≡◌, ◌-◌, length}
use Rattle.fb_shots_stim.specs.InternalParts.{IsPlace}
use Rattle.fb_shots_stim.proofs.parts.advance.Given as goal

abbrev pub invariant-loop-begun : goal.invariant-loop-begun
invariant-loop-begun g l =
    IsPlace g.P.LineParts.rules l.begun.so_far l.rest l.begun.place.line l.begun.place.part l.begun.place.seen
    × (l.begun.so_far.detectors ≡ l.initial.begun.so_far.detectors)

abbrev pub decreases-loop-begun : goal.decreases-loop-begun
decreases-loop-begun g l = length l.rest - l.begun.place.seen
