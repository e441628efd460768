use Rattle.std.proofs.Common.{◌≡◌, ℕ, ℤ, map, take}
use Rattle.std.specs.Int.{is_negative}
use Rattle.fb_graph.proofs.signs.below_zero.Given as goal

abbrev pub invariant-loop-edge : goal.invariant-loop-edge
invariant-loop-edge l = l.flags.items ≡ map (λ (e : ℕ × ℕ × ℤ). is_negative e.2) (take l.edge-index l.given)
