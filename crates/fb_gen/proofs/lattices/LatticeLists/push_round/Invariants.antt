use Rattle.std.proofs.Common.{◌≡◌, ◌++◌}
use Rattle.std.specs.List.{flat_map, range_with_len}
use Rattle.fb_gen.specs.Lattice.{edges_of_row, virtuals_of_row}
use Rattle.fb_gen.proofs.lattices.LatticeLists.push_round.Given as goal

abbrev pub invariant-loop-row : goal.invariant-loop-row
invariant-loop-row l =
    (l.self.edges.items ≡ l.initial.self.edges.items
    ++ flat_map (edges_of_row l.size.distance l.size.rounds l.round) (range_with_len 0 l.row))
    × (l.self.virtuals.items ≡ l.initial.self.virtuals.items
    ++ flat_map (virtuals_of_row l.size.distance l.round) (range_with_len 0 l.row))
