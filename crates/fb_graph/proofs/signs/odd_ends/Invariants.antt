use Rattle.std.proofs.Common.{◌≡◌, ◌==◌, ◌&&◌, ℕ, false, not, take, get_or}
use Rattle.fb_graph.specs.Parity.{is_odd_count}
use Rattle.fb_graph.specs.Problem.{edge_at, touches}
use Rattle.fb_graph.proofs.signs.odd_ends.Given as goal

abbrev pub invariant-loop-k : goal.invariant-loop-k
invariant-loop-k l = (v : ℕ) → is_odd_count (λ w. w == v) l.ends
    ≡ (not (get_or l.virtuals v false) && is_odd_count (λ k. touches v (edge_at l.edges k)) (take l.k-index l.listed))
