use Rattle.std.proofs.Common.{◌≡◌, ◌++◌}
use Rattle.std.specs.List.{flat_map, range_with_len}
use Rattle.fb_gen.specs.Lattice.{edges_from}
use Rattle.fb_gen.proofs.lattices.LatticeLists.push_row.Given as goal

abbrev pub invariant-loop-column : goal.invariant-loop-column
invariant-loop-column l =
    (l.self.edges.items ≡ l.initial.self.edges.items
    ++ flat_map (edges_from l.size.distance l.size.rounds l.round l.row) (range_with_len 0 l.column))
    × (l.self.virtuals ≡ l.initial.self.virtuals)
