use Rattle.std.proofs.Common.{◌-◌, ◌≤◌, length}
use Rattle.fb_graph.specs.InternalFlooding.{Grows, IsFlooding}
use Rattle.fb_graph.proofs.connecting.flood_component.Given as goal

abbrev pub invariant-loop-place : goal.invariant-loop-place
invariant-loop-place g l = record {
  within : l.place ≤ length l.flood.order;
  flooding : IsFlooding (g.S.Scope.problem l.scope) l.flood l.place l.label;
  grows : Grows l.initial.flood l.flood;
}

abbrev pub decreases-loop-place : goal.decreases-loop-place
decreases-loop-place g l = (g.S.Scope.problem l.scope).vertices - l.place
