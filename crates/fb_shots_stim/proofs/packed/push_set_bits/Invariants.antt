use Rattle.std.proofs.Common.{◌≡◌, ◌+◌, ◌*◌, ◌-◌, ◌^◌, ◌<◌, ◌≤◌, ◌++◌, length}
use Rattle.fb_shots_stim.specs.Shots.{places_from}
use Rattle.fb_shots_stim.specs.BlocksB8.{low_bits, bits_of, is_set}
use Rattle.fb_shots_stim.proofs.packed.push_set_bits.Given as goal

abbrev pub invariant-loop-left : goal.invariant-loop-left
invariant-loop-left l = record {
  after_first : l.first ≤ l.place;
  within : l.place ≤ l.first + length l.bytes * 8;
  small : l.left < 2 ^ (l.first + length l.bytes * 8 - l.place);
  pushed : l.places.items ++ places_from is_set l.place (low_bits (l.first + length l.bytes * 8 - l.place) l.left)
      ≡ l.initial.places.items ++ places_from is_set l.first (bits_of l.bytes);
}

abbrev pub decreases-loop-left : goal.decreases-loop-left
decreases-loop-left l = l.left
