use Rattle.std.proofs.Common.{ℕ, ◌≡◌, ◌<◌, length, get_or}
use Rattle.fb_plan.specs.InternalLoads.{load_at, weigh}
use Rattle.fb_plan.proofs.Tallies.{is_open_before}
use Rattle.fb_plan.proofs.loads.loads.Given as goal

abbrev pub invariant-loop-v : goal.invariant-loop-v
invariant-loop-v l =
    (l.running ≡ weigh l.fn.measure (is_open_before l.v) l.claims)
    × (length l.sums.items ≡ l.v)
    × ((k : ℕ) → k < l.v → get_or l.sums.items k 0 ≡ load_at l.fn.measure l.claims k)
