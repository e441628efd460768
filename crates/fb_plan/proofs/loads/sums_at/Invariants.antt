use Rattle.std.proofs.Common.{ℕ, ◌≡◌, ◌+◌, ◌≤◌, length, take, get_or}
use Rattle.fb_plan.specs.InternalLoads.{bounded_at}
use Rattle.fb_plan.proofs.loads.sums_at.Given as goal

abbrev pub invariant-loop-claim : goal.invariant-loop-claim
invariant-loop-claim l =
    (length l.sums.items ≡ l.vertices + 1)
    × ((v : ℕ) → v ≤ l.vertices → get_or l.sums.items v 0 ≡ bounded_at l.measure l.bound (take l.claim-index l.claims) v)
