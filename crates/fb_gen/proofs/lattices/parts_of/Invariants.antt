use Rattle.std.proofs.Common.{◌≡◌}
use Rattle.std.specs.List.{flat_map, range_with_len}
use Rattle.fb_gen.specs.Lattice.{edges_of_round, virtuals_of_round}
use Rattle.fb_gen.proofs.lattices.parts_of.Given as goal

abbrev pub invariant-loop-round : goal.invariant-loop-round
invariant-loop-round l =
    (l.parts.edges.items ≡ flat_map (edges_of_round l.size.distance l.size.rounds) (range_with_len 0 l.round))
    × (l.parts.virtuals.items ≡ flat_map (virtuals_of_round l.size.distance) (range_with_len 0 l.round))
