use Rattle.std.proofs.Common.{◌≡◌, length}
use Rattle.fb_regions.specs.InternalPlaces.{IsIndexBefore}
use Rattle.fb_regions.proofs.places.enter_from.Given as goal

abbrev pub invariant-loop-i : goal.invariant-loop-i
invariant-loop-i l = IsIndexBefore l.i l.regions l.places.items × (length l.places.items ≡ length l.initial.places.items)
