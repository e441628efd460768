use Rattle.std.proofs.Common.{◌≡◌, ◌+◌, length, All}
use Rattle.fb_crew.specs.InternalSeats.{IsNew}
use Rattle.fb_crew.proofs.crew.seat_members.Given as goal

-- nothing was done at any seat, and each member has one of the tools
abbrev pub invariant-loop-seat : goal.invariant-loop-seat
invariant-loop-seat g l = record {
  seats : All (IsNew l.board) l.seats.items;
  members : All (λ m. IsNew l.board m.worker.seat) l.members.items;
  count : length l.members.items + length l.seats.items ≡ length l.initial.seats.items;
  tools : length l.tools.items + length l.members.items ≡ length l.initial.tools.items;
}

abbrev pub decreases-loop-seat : goal.decreases-loop-seat
decreases-loop-seat g l = length l.seats.items
