use Rattle.std.proofs.Common.{◌≡◌, ℕ, ◌+◌, ◌<◌, length, get_or}
use Rattle.fb_gen.specs.TimePlan.{first_round}
use Rattle.fb_gen.proofs.shares.first_rounds.Given as goal

abbrev pub invariant-loop-j : goal.invariant-loop-j
invariant-loop-j l =
    (length l.found.items ≡ l.j + 1)
    × (l.first ≡ first_round l.rounds l.units l.j)
    × ((k : ℕ) → k < l.j + 1 → get_or l.found.items k 0 ≡ first_round l.rounds l.units k)
