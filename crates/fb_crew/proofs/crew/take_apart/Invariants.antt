use Rattle.std.proofs.Common.{◌≡◌, ◌+◌, length, All}
use Rattle.fb_slots.specs.Seats.{entries_in}
use Rattle.fb_crew.specs.InternalSeats.{IsEnded}
use Rattle.fb_crew.proofs.crew.take_apart.Given as goal

-- the seats have ended, and the entries are theirs
abbrev pub invariant-loop-member : goal.invariant-loop-member
invariant-loop-member g l = record {
  members : All (λ m. IsEnded l.board (g.G.Gate.passed l.runner.gate.now) m.worker.seat) l.members.items;
  seats : All (IsEnded l.board (g.G.Gate.passed l.runner.gate.now)) l.seats.items;
  entries : l.entries.items ≡ entries_in l.seats.items;
  count : length l.seats.items + length l.members.items ≡ length l.initial.members.items;
  tools : length l.tools.items + length l.members.items ≡ length l.initial.tools.items + length l.initial.members.items;
}

abbrev pub decreases-loop-member : goal.decreases-loop-member
decreases-loop-member g l = length l.members.items
