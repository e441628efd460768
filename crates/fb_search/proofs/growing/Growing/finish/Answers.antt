use Rattle.fb_half.specs.Values.{part_of}
use Rattle.fb_search.specs.InternalGrowing.{GrowingValue}
use Rattle.fb_search.proofs.FinishedGrowth.{finished_part}
use Rattle.fb_search.proofs.PacedTrees.{rest_of_none, scope_of_rest}
use Rattle.fb_search.proofs.growing.Growing.finish.Goals as goal

pub boxed-requires-clause-part : goal.boxed-requires-clause-part
boxed-requires-clause-part c =
    let w : GrowingValue = record { part = part_of c.self.inside.parts; forest = c.self.inside.forest; watched = c.self.inside.watch } in
    finished_part w c.self.invariant.1 (rw (← c.self.view_is) at c.requires)

pub boxed-requires-clause-scope : goal.boxed-requires-clause-scope
boxed-requires-clause-scope c =
    let parts = c.self.inside.parts in
    scope_of_rest parts c.self.invariant.0.scope
    (rest_of_none parts.regions c.self.inside.forest c.self.invariant.0.paces (rw (← c.self.view_is) at c.requires))
