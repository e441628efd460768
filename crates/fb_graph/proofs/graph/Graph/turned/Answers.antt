use Rattle.fb_graph.proofs.ShiftedShots.{kept_rise}
use Rattle.fb_graph.proofs.graph.Graph.turned.Goals as goal

pub returns-clause-rising : goal.returns-clause-rising
returns-clause-rising c =
    rw (c.as_slice.ensures, c.self.invariant.edge_signs.turned)
    (kept_rise (record { vertices = c.self.inside.vertices; edges = c.self.inside.edges.items; negatives = c.self.inside.signs.negatives; virtuals = c.self.inside.virtuals }) _)
