use Rattle.std.proofs.Common.{length}
use Rattle.fb_graph.specs.InternalFlooding.{IsFlooding}
use Rattle.fb_graph.proofs.connecting.label_vertices.Given as goal

abbrev pub invariant-loop-v : goal.invariant-loop-v
invariant-loop-v g l = IsFlooding (g.S.Scope.problem l.scope) l.flood (length l.flood.order) l.v
