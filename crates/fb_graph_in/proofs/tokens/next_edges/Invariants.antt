use Rattle.std.proofs.Common.{ℕ, ◌<◌, ◌≤◌, length}
use Rattle.fb_graph_in.specs.InternalTokens.{edge_data}
use Rattle.fb_json.proofs.ListTokens.{GoesOn}
use Rattle.fb_graph_in.proofs.tokens.next_edges.Given as goal

-- n bounds the number of turns that are left
abbrev pub invariant-entries : goal.invariant-entries
invariant-entries l =
    (n : ℕ) × (length l.reader ≤ n) × ((depth : ℕ) → 0 < depth → GoesOn edge_data depth l.initial.reader l.found.items n l.reader)
    × (length l.reader ≤ length l.initial.reader)

abbrev pub decreases-entries : goal.decreases-entries
decreases-entries l = length l.reader
