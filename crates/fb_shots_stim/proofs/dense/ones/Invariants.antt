use Rattle.std.proofs.Common.{◌≡◌, ◌+◌, ◌++◌, length}
use Rattle.std.specs.Slice.Iter.{chunks_rest, chunks_size}
use Rattle.fb_shots_stim.specs.Shots.{places_from}
use Rattle.fb_shots_stim.specs.Text01.{is_one}
use Rattle.fb_shots_stim.proofs.dense.ones.Given as goal

abbrev pub invariant-loop-word : goal.invariant-loop-word
invariant-loop-word l = record {
  next : goal.iterator-loop-word.can_next l.word-iterator;
  finite : goal.iterator-loop-word.is_finite l.word-iterator;
  size : chunks_size l.word-iterator ≡ 8;
  left : l.first + length (chunks_rest l.word-iterator) ≡ length l.bits;
  pushed : l.places.items ++ places_from is_one l.first (chunks_rest l.word-iterator) ≡ places_from is_one 0 l.bits;
}
