use Rattle.std.proofs.Common.{◌≡◌, ℕ, ◌<◌, length, get_or, []}
use Rattle.fb_graph.proofs.building.empty_lists.Given as goal

abbrev pub invariant-loop-i : goal.invariant-loop-i
invariant-loop-i l =
    (length l.lists.items ≡ l.i)
    × ((v : ℕ) → v < l.i → get_or l.lists.items v [] ≡ [])
