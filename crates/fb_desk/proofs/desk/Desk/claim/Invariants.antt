use Rattle.std.proofs.Common.{◌≡◌}
use Rattle.fb_desk.proofs.desk.Desk.claim.Given as goal

-- the seat stays the worker's
abbrev pub invariant-loop : goal.invariant-loop
invariant-loop g l =
    (goal.iterator-loop g).can_next l.iterator' × (goal.iterator-loop g).is_finite l.iterator' × (l.seat.worker ≡ l.initial.seat.worker)
