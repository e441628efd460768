use Rattle.fb_gen.specs.Lattice.{edges_of_row, virtuals_of_row}
use Rattle.fb_gen.proofs.Grids.{piece_added}
use Rattle.fb_gen.proofs.lattices.LatticeLists.push_round.Goals as goal

pub loop-row-preserved : goal.loop-row-preserved
loop-row-preserved c = (
  piece_added c.args.self.now.edges.items _ _ (edges_of_row c.args.size.distance c.args.size.rounds c.args.round) c.loop-row.row
      c.loop-row.invariant.0 c.in_ok-push_row.ensures.edges,
  piece_added c.args.self.now.virtuals.items _ _ (virtuals_of_row c.args.size.distance c.args.round) c.loop-row.row
      c.loop-row.invariant.1 c.in_ok-push_row.ensures.virtuals,
)
