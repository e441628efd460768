use Rattle.std.proofs.Common.{ℕ, ◌≡◌, ◌<◌, false, length, take, get_or}
use Rattle.fb_plan.specs.Rules.{is_named, is_used_twice, joins_of}
use Rattle.fb_plan.proofs.judging.first_used_twice.Given as goal

abbrev pub invariant-loop-i : goal.invariant-loop-i
invariant-loop-i l =
    ((k : ℕ) → k < l.i → is_used_twice (joins_of l.fusions) k ≡ false)
    × (length l.used.items ≡ l.nodes)
    × ((n : ℕ) → n < l.nodes → get_or l.used.items n false ≡ is_named (take l.i (joins_of l.fusions)) n)
