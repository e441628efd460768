use Rattle.std.proofs.Common.{◌∙◌, [], ap, arith}
use Rattle.std.specs.List.{flat_map, range_with_len}
use Rattle.fb_gen.specs.Lattice.{edges_of_round, lattice_edges, lattice_virtuals, virtuals_of_round}
use Rattle.fb_gen.proofs.Grids.{piece_added}
use Rattle.fb_gen.proofs.lattices.parts_of.Goals as goal

pub loop-round-preserved : goal.loop-round-preserved
loop-round-preserved c = (
  piece_added [] _ _ (edges_of_round c.args.size.distance c.args.size.rounds) c.loop-round.round
      c.loop-round.invariant.0 c.in_ok-push_round.ensures.edges,
  piece_added [] _ _ (virtuals_of_round c.args.size.distance) c.loop-round.round
      c.loop-round.invariant.1 c.in_ok-push_round.ensures.virtuals,
)

pub returns-clause-edges : goal.returns-clause-edges
unfolding lattice_edges
returns-clause-edges c =
    c.loop-round.invariant.0
    ∙ ap (λ n. flat_map (edges_of_round c.args.size.distance c.args.size.rounds) (range_with_len 0 n)) (omega arith)

pub returns-clause-virtuals : goal.returns-clause-virtuals
unfolding lattice_virtuals
returns-clause-virtuals c =
    c.loop-round.invariant.1 ∙ ap (λ n. flat_map (virtuals_of_round c.args.size.distance) (range_with_len 0 n)) (omega arith)
