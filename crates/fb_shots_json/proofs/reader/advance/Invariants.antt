use Rattle.std.proofs.Common.{◌-◌, length}
use Rattle.fb_shots_json.specs.InternalPlaces.{IsPlace}
use Rattle.fb_shots_json.proofs.reader.advance.Given as goal

abbrev pub invariant-loop-alloc : goal.invariant-loop-alloc
invariant-loop-alloc l = IsPlace l.graph l.rest l.place.line l.place.seen l.place.is_blank

abbrev pub decreases-loop-alloc : goal.decreases-loop-alloc
decreases-loop-alloc l = length l.rest - l.place.seen
