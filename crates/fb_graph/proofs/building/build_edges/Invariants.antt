use Rattle.std.proofs.Common.{◌≡◌, map, take, drop, All}
use Rattle.fb_graph.specs.GraphRules.{edges_fault, edge_from}
use Rattle.fb_graph.specs.Limits.{IsEdge}
use Rattle.fb_graph.proofs.building.build_edges.Given as goal

abbrev pub invariant-loop-i : goal.invariant-loop-i
invariant-loop-i l =
    (edges_fault l.n 0 l.edges ≡ edges_fault l.n l.i (drop l.i l.edges))
    × (l.built.items ≡ map edge_from (take l.i l.edges))
    × All (IsEdge l.n) l.built.items
