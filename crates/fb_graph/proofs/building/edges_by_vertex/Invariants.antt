use Rattle.std.proofs.Common.{◌≡◌, ℕ, ◌<◌, length, get_or, []}
use Rattle.fb_graph.specs.Adjacency.{edges_at}
use Rattle.fb_graph.proofs.building.edges_by_vertex.Given as goal

abbrev pub invariant-loop-k : goal.invariant-loop-k
invariant-loop-k l =
    (length l.adjacent.items ≡ l.n)
    × ((v : ℕ) → v < l.n → get_or l.adjacent.items v [] ≡ edges_at l.edges l.k v)
