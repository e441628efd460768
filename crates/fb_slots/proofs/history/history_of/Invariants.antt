use Rattle.std.proofs.Common.{◌≡◌, ◌*◌, ◌≤◌, length, vec_capacity}
use Rattle.fb_slots.specs.Listed.{listed_by, gains}
use Rattle.fb_slots.proofs.history.history_of.Given as goal

abbrev pub invariant-loop-place : goal.invariant-loop-place
invariant-loop-place g l =
    (l.history.items ≡ listed_by gains l.nodes l.entries l.place)
    × (length l.history.items ≡ 2 * l.place) × (2 * l.count ≤ vec_capacity l.history)
