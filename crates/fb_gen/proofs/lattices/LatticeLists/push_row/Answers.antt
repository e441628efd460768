use Rattle.std.proofs.Common.{◌∙◌}
use Rattle.fb_gen.specs.Lattice.{edges_from}
use Rattle.fb_gen.proofs.Grids.{piece_added}
use Rattle.fb_gen.proofs.lattices.LatticeLists.push_row.Goals as goal

pub loop-column-preserved : goal.loop-column-preserved
loop-column-preserved c = (
  piece_added c.push_virtuals.new.self.edges.items _ _
      (edges_from c.args.size.distance c.args.size.rounds c.args.round c.args.row) c.loop-column.column
      c.loop-column.invariant.0 c.in_ok-push_edges.ensures.edges,
  c.in_ok-push_edges.ensures.virtuals ∙ c.loop-column.invariant.1,
)
