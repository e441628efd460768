use Rattle.std.proofs.Common.{◌≡◌, ℕ, ◌<◌, length, get_or, take}
use Rattle.fb_book.specs.Machine.{trace}
use Rattle.fb_slots.specs.Listed.{taker_of}
use Rattle.fb_slots.proofs.history.takers.Given as goal

abbrev pub invariant-loop-entry : goal.invariant-loop-entry
invariant-loop-entry l =
    (length l.workers.items ≡ l.count)
    × ((k : ℕ) → k < l.count → get_or l.workers.items k 0 ≡ taker_of
    (trace l.nodes k (take l.entry-index l.entries)) 0)
