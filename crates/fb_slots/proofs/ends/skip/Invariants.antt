use Rattle.std.proofs.Common.{◌≡◌, ◌+◌}
use Rattle.std.specs.Mem.Slots.{slots_items, slots_filled, slots_len}
use Rattle.fb_slots.specs.Ends.{IsEmptiedTo}
use Rattle.fb_slots.proofs.ends.skip.Given as goal

abbrev pub invariant-loop-i : goal.invariant-loop-i
invariant-loop-i g l =
    IsEmptiedTo (slots_filled l.closed.slots) (l.from + l.i) (slots_len l.closed.slots)
    × (slots_items l.closed.slots ≡ slots_items l.initial.closed.slots)
    × (slots_len l.closed.slots ≡ slots_len l.initial.closed.slots)
