use Rattle.std.proofs.Common.{◌≡◌, ◌++◌, take, drop}
use Rattle.fb_regions.specs.InternalClock.{all_at}
use Rattle.fb_regions.proofs.clock.settle_all.Given as goal

abbrev pub invariant-loop-i : goal.invariant-loop-i
invariant-loop-i l = l.regions ≡ all_at l.clock (take l.i l.initial.regions) ++ drop l.i l.initial.regions
