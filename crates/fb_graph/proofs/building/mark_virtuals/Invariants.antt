use Rattle.std.proofs.Common.{◌≡◌, ℕ, ◌<◌, length, take, drop, get_or, false, [], All}
use Rattle.fb_graph.specs.Parity.{is_in}
use Rattle.fb_graph.specs.GraphRules.{virtuals_fault}
use Rattle.fb_graph.proofs.building.mark_virtuals.Given as goal

abbrev pub invariant-loop-i : goal.invariant-loop-i
invariant-loop-i l =
    (length l.flags.items ≡ l.n)
    × (virtuals_fault l.n [] 0 l.virtuals ≡ virtuals_fault l.n (take l.i l.virtuals) l.i (drop l.i l.virtuals))
    × ((k : ℕ) → k < l.n → get_or l.flags.items k false ≡ is_in (take l.i l.virtuals) k)
    × All (λ u. u < l.n) (take l.i l.virtuals)
