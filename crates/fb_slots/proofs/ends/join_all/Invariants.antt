use Rattle.std.proofs.Common.{◌≡◌, None, [], length}
use Rattle.fb_slots.specs.Gathered.{IsGathered}
use Rattle.fb_slots.specs.Slots.{layout_of}
use Rattle.fb_slots.proofs.ends.join_all.Given as goal

abbrev pub invariant-loop-seat : goal.invariant-loop-seat
invariant-loop-seat g l =
    (l.me.table_id ≡ l.table.shared.table_id) × (l.me.me.1 ≡ [])
    × IsGathered (λ s. s.board ≡ l.table.shared.table_id) (λ s. s.held ≡ None)
    (layout_of g.N.Board.job g.N.Board.workers) l.fn.seats.items l.seats.items l.me.me.0

abbrev pub decreases-loop-seat : goal.decreases-loop-seat
decreases-loop-seat g l = length l.seats.items
