use Rattle.std.proofs.Common.{◌≡◌, ℕ, ◌<◌, length, get_or, false}
use Rattle.fb_graph.specs.Parity.{is_odd_count}
use Rattle.fb_graph.specs.Problem.{edge_at, touches}
use Rattle.fb_gen.specs.Drawing.{state_after, hits_of}
use Rattle.fb_gen.proofs.drawing.flags_of_hits.Given as goal

abbrev pub invariant-loop-k : goal.invariant-loop-k
invariant-loop-k l =
    (length l.flags.items ≡ l.graph.vertices)
    × (l.draws ≡ state_after l.initial.draws l.k)
    × ((v : ℕ) → v < l.graph.vertices → get_or l.flags.items v false
    ≡ is_odd_count (λ j. touches v (edge_at l.graph.edges j)) (hits_of l.initial.draws l.rate l.k))
