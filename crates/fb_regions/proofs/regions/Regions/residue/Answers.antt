use Rattle.fb_graph.specs.Problem.{edge_at}
use Rattle.fb_graph.specs.Dual.{all_cuts}
use Rattle.fb_regions.specs.InternalClock.{all_at}
use Rattle.fb_regions.specs.InternalNodes.{nodes_of}
use Rattle.fb_regions.proofs.Readings.{residue}
use Rattle.fb_regions.proofs.regions.Regions.residue.Goals as goal

pub returns-clause-load : goal.returns-clause-load
returns-clause-load g c =
    let first = rw (← c.self.view_is) at c.potential.ensures in
    let second = rw (← c.self.view_is) at c.potential-2.ensures in
    let e = edge_at (g.S.Scope.problem c.self.inside.scope).edges c.args.edge in
    rw (← c.self.view_is)
    (λ apart. residue _ _ _ _ _ _ (all_cuts (nodes_of c.self.inside.marks (all_at c.self.inside.clock c.self.inside.regions.items))) e c.residue_left.ensures c.weight.ensures first c.ends-first.ensures.first
    second c.ends-first.ensures.second (c.self.invariant.0.nest.dual.loads e apart))
