use Rattle.std.proofs.Common.{ℕ, ◌≡◌, true, take}
use Rattle.fb_graph.specs.InternalFlooding.{Grows, IsFlooding, IsSettled}
use Rattle.fb_graph.specs.Parity.{is_in}
use Rattle.fb_graph.specs.Problem.{edge_at}
use Rattle.fb_graph.proofs.connecting.flood_neighbours.Given as goal

abbrev pub invariant-loop-edge : goal.invariant-loop-edge
invariant-loop-edge g l = record {
  flooding : IsFlooding (g.S.Scope.problem l.scope) l.flood l.place l.label;
  grows : Grows l.initial.flood l.flood;
  settled : (k : ℕ) → is_in (take l.edge-index l.edges) k ≡ true → IsSettled l.flood (edge_at (g.S.Scope.problem l.scope).edges k);
}
