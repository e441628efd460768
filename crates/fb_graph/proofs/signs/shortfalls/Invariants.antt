use Rattle.std.proofs.Common.{◌≡◌, ◌*◌, ◌≤◌, ℕ, ℤ, take, sum_by}
use Rattle.fb_graph.specs.Limits.{most_weight, signed_weight}
use Rattle.fb_graph.specs.Signs.{shortfall}
use Rattle.fb_graph.proofs.signs.shortfalls.Given as goal

abbrev pub invariant-loop-change : goal.invariant-loop-change
invariant-loop-change l =
    (l.before ≡ sum_by (λ (change : ℕ × ℤ). shortfall (signed_weight l.graph change.0)) (take l.change-index l.changes))
    × (l.after ≡ sum_by (λ (change : ℕ × ℤ). shortfall change.1) (take l.change-index l.changes))
    × (l.before ≤ l.change-index * most_weight) × (l.after ≤ l.change-index * most_weight)
