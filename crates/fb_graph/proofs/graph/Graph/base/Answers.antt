use Rattle.std.proofs.Common.{arith}
use Rattle.std.proofs.lemmas.Int.{ints}
use Rattle.fb_graph.proofs.SignedSums.{negative_sum}
use Rattle.fb_graph.proofs.graph.Graph.base.Goals as goal

pub overflow_cast-result : goal.overflow_cast-result
overflow_cast-result c = let light = c.self.invariant.edge_signs.light in omega (arith, ints, light)

pub overflow_sub-result : goal.overflow_sub-result
overflow_sub-result c = let light = c.self.invariant.edge_signs.light in omega (arith, ints, light)

pub returns-clause-value : goal.returns-clause-value
returns-clause-value c =
    let signs = c.self.invariant.edge_signs in
    rw (← c.self.view_is) (omega (arith, ints, signs.light, signs.total, negative_sum (record { vertices = c.self.inside.vertices; edges = c.self.inside.edges.items; negatives = c.self.inside.signs.negatives; virtuals = c.self.inside.virtuals }) c.self.inside.signs.negatives (λ k within. within)))

pub returns-clause-low : goal.returns-clause-low
returns-clause-low c = let light = c.self.invariant.edge_signs.light in omega (arith, ints, light)

pub returns-clause-high : goal.returns-clause-high
returns-clause-high c = let light = c.self.invariant.edge_signs.light in omega (arith, ints, light)
