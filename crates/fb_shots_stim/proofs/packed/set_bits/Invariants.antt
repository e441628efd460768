use Rattle.std.proofs.Common.{◌≡◌, ◌+◌, ◌*◌, ◌++◌, length}
use Rattle.std.specs.Slice.Iter.{chunks_rest, chunks_size}
use Rattle.fb_shots_stim.specs.Shots.{places_from}
use Rattle.fb_shots_stim.specs.BlocksB8.{bits_of, is_set}
use Rattle.fb_shots_stim.proofs.packed.set_bits.Given as goal

abbrev pub invariant-loop-bytes : goal.invariant-loop-bytes
invariant-loop-bytes l = record {
  next : goal.iterator-loop-bytes.can_next l.bytes-iterator;
  finite : goal.iterator-loop-bytes.is_finite l.bytes-iterator;
  size : chunks_size l.bytes-iterator ≡ 8;
  left : l.first + length (chunks_rest l.bytes-iterator) * 8 ≡ length l.block * 8;
  pushed : l.places.items ++ places_from is_set l.first (bits_of (chunks_rest l.bytes-iterator)) ≡ places_from is_set 0 (bits_of l.block);
}
