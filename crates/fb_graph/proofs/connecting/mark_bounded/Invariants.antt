use Rattle.std.proofs.Common.{ℕ, ◌≡◌, ◌<◌, false, length, get_or}
use Rattle.fb_graph.specs.InternalLabelling.{has_boundary}
use Rattle.fb_graph.proofs.connecting.mark_bounded.Given as goal

abbrev pub invariant-loop-v : goal.invariant-loop-v
invariant-loop-v g l = record {
  count : length l.bounded.items ≡ (g.S.Scope.problem l.scope).vertices;
  each : (label : ℕ) → label < (g.S.Scope.problem l.scope).vertices → get_or l.bounded.items label false ≡ has_boundary (g.S.Scope.problem l.scope) l.labels l.v label;
}
