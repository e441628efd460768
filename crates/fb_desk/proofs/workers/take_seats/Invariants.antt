use Rattle.std.proofs.Common.{◌≡◌, ◌+◌, ◌≤◌, length, vec_capacity}
use Rattle.fb_desk.specs.Numbers.{AreNumbered}
use Rattle.fb_desk.proofs.workers.take_seats.Given as goal

-- each seat has one of the tools and one part
abbrev pub invariant-loop-worker : goal.invariant-loop-worker
invariant-loop-worker g l = record {
  seats : length l.seats.items ≡ l.worker;
  numbers : AreNumbered (λ s. s.worker) l.seats.items;
  seats_room : l.count ≤ vec_capacity l.seats;
  tools : length l.tools.items + l.worker ≡ length l.initial.tools.items;
  tools_room : vec_capacity l.tools ≡ vec_capacity l.initial.tools;
  parts : l.all.parts + l.worker ≡ l.initial.all.parts;
  none : l.all.amount ≡ 0;
}
