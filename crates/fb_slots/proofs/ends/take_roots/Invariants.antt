use Rattle.std.proofs.Common.{◌≡◌, ◌*◌, ◌≤◌, vec_capacity}
use Rattle.std.specs.Mem.Slots.{slots_items, slots_filled, slots_len}
use Rattle.fb_slots.specs.Ends.{IsEmptiedTo, AreAtRoots}
use Rattle.fb_slots.proofs.ends.take_roots.Given as goal

abbrev pub invariant-loop-slot : goal.invariant-loop-slot
invariant-loop-slot g l =
    IsEmptiedTo (slots_filled l.closed.slots) (l.slot * l.nodes) (slots_len l.closed.slots)
    × (slots_items l.closed.slots ≡ slots_items l.initial.closed.slots)
    × (slots_len l.closed.slots ≡ slots_len l.initial.closed.slots)
    × AreAtRoots l.nodes (slots_items l.initial.closed.slots) l.slot l.roots.items
    × (l.slots ≤ vec_capacity l.roots)
