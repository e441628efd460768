use Rattle.std.proofs.Common.{ℕ, ◌≡◌, ◌<◌, length, take}
use Rattle.fb_plan.specs.Reaches.{IsReach, reach_at}
use Rattle.fb_plan.proofs.reach.reaches_of.Given as goal

abbrev pub invariant-loop-v : goal.invariant-loop-v
invariant-loop-v l =
    (length l.reaches.items ≡ l.nodes)
    × ((n : ℕ) → n < l.nodes → IsReach (take l.v l.owners) n (reach_at l.reaches.items n))
