use Rattle.std.proofs.Common.{◌≡◌, ◌+◌, length, vec_capacity}
use Rattle.fb_desk.proofs.workers.leave_seats.Given as goal

-- what the seats that are left so far gave back
abbrev pub invariant-loop-seat : goal.invariant-loop-seat
invariant-loop-seat g l = record {
  made : l.all.amount ≡ l.made;
  parts : l.all.parts + length l.seats.items ≡ l.initial.all.parts + length l.initial.seats.items;
  total : l.events.total ≡ l.initial.events.total;
  tools : length l.tools.items + length l.seats.items ≡ length l.initial.tools.items + length l.initial.seats.items;
  tools_room : vec_capacity l.tools ≡ vec_capacity l.initial.tools;
}

abbrev pub decreases-loop-seat : goal.decreases-loop-seat
decreases-loop-seat g l = goal.left-loop-seat g l
