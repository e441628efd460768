use Rattle.std.proofs.Common.{◌≡◌, take}
use Rattle.fb_graph.specs.Limits.{turned_edges}
use Rattle.fb_graph.proofs.signs.turned_edges.Given as goal

abbrev pub invariant-loop-change : goal.invariant-loop-change
invariant-loop-change l = l.turned ≡ turned_edges l.graph (take l.change-index l.changes)
