use Rattle.std.proofs.Common.{◌≡◌, ◌++◌, take, drop}
use Rattle.fb_crew.specs.InternalWindows.{with_places}
use Rattle.fb_crew.proofs.sorting.renumber.Given as goal

abbrev pub invariant-loop-i : goal.invariant-loop-i
invariant-loop-i l = l.history.items ≡ with_places l.places (take l.i l.initial.history.items) ++ drop l.i l.initial.history.items
