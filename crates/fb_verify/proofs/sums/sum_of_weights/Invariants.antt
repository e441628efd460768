use Rattle.std.proofs.Common.{◌≡◌, ◌*◌, ◌^◌, pos, neg_ℤ, ◌+ℤ◌, ◌≤ℤ◌, drop}
use Rattle.fb_graph.specs.Signs.{signed_weight_of}
use Rattle.fb_verify.proofs.sums.sum_of_weights.Given as goal

-- the sum so far, with the rest; and its bounds
abbrev pub invariant-loop-edge : goal.invariant-loop-edge
invariant-loop-edge l =
    (signed_weight_of l.graph l.shot l.edges ≡ l.total +ℤ signed_weight_of l.graph l.shot (drop l.edge-index l.edges))
    × (neg_ℤ (pos (l.edge-index * 2 ^ 63)) ≤ℤ l.total) × (l.total ≤ℤ pos (l.edge-index * 2 ^ 63))
