use Rattle.std.proofs.Common.{◌≡◌, take}
use Rattle.fb_crew.specs.InternalWindows.{IsSorted}
use Rattle.fb_crew.proofs.sorting.sort_out.Given as goal

abbrev pub invariant-loop-place : goal.invariant-loop-place
invariant-loop-place l = IsSorted l.initial.parts.0.now (take l.place l.shots) l.sorted.odd.items l.sorted.even.items l.sorted.places.items × (l.parts ≡ l.initial.parts)
