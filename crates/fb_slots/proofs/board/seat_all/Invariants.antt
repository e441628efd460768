use Rattle.std.proofs.Common.{◌≡◌, ◌+◌, ◌-◌, ◌≤◌, [], length, vec_capacity, map}
use Rattle.std.specs.List.{All}
use Rattle.fb_slots.specs.Numbers.{numbers_down}
use Rattle.fb_slots.specs.Seats.{new_seat}
use Rattle.fb_slots.specs.Slots.{hand}
use Rattle.fb_slots.proofs.board.seat_all.Given as goal

abbrev pub invariant-loop-number : goal.invariant-loop-number
invariant-loop-number g l =
    (l.me.table_id ≡ l.table.shared.table_id)
    × (l.me.me ≡ (hand 0 [] 0 (l.workers + 1 - l.number) 0, []))
    × (length l.seats.items ≡ l.number)
    × All (λ s. s ≡ new_seat l.table.shared.table_id s.worker) l.seats.items
    × (l.workers + 1 ≤ vec_capacity l.seats) × (vec_capacity l.seats ≡ vec_capacity l.initial.seats)
    × (map (λ s. s.worker) l.seats.items ≡ numbers_down l.workers l.number)
