use Rattle.std.proofs.Common.{◌≤◌, vec_capacity}
use Rattle.fb_book.proofs.Copies.{AreOut}
use Rattle.fb_book.proofs.parking.roots_of.Given as goal

abbrev pub invariant-loop-slot : goal.invariant-loop-slot
invariant-loop-slot g l =
    AreOut l.initial.parked.items l.parked.items l.roots.items l.nodes l.slot l.slots × (l.slots ≤ vec_capacity l.roots)
