use Rattle.std.proofs.Common.{◌∙◌, ap, sym}
use Rattle.fb_half.specs.Values.{part_of}
use Rattle.fb_regions.specs.Paces.{grows}
use Rattle.fb_search.specs.InternalGrowing.{GrowingValue}
use Rattle.fb_search.specs.InternalTreeMeetings.{MeetsOutside}
use Rattle.fb_search.proofs.MeetsOver.{no_growth, outside_first, outside_held, outside_second}
use Rattle.fb_search.proofs.OutsideNodes.{outside_listed}
use Rattle.fb_search.proofs.growing.Growing.met_nodes.Goals as goal

pub over_ends-first-requires-clause-covered : goal.over_ends-first-requires-clause-covered
over_ends-first-requires-clause-covered c =
    let w : GrowingValue = record { part = part_of c.self.inside.parts; forest = c.self.inside.forest; watched = c.self.inside.watch } in
    outside_held w c.args.edge _ (ap (λ g. g.edges) c.self.invariant.0.scope.graph) (rw (← c.self.view_is) at c.requires)

pub returns-in-Plus-clause-listed : goal.returns-in-Plus-clause-listed
returns-in-Plus-clause-listed c =
    let w : GrowingValue = record { part = part_of c.self.inside.parts; forest = c.self.inside.forest; watched = c.self.inside.watch } in
    let meets : MeetsOutside w c.args.edge c.over_ends-first.result.0 c.over_ends-first.result.1 =
    outside_first w c.args.edge c.over_ends-first.result.0 c.over_ends-first.result.1 _ (ap (λ g. g.edges) c.self.invariant.0.scope.graph)
    c.over_ends-first.ensures.first c.over_ends-first.ensures.second (rw (← c.self.view_is) at c.requires)
    (ap grows (sym c.role.ensures ∙ c.in-Plus.is)) in
    rw (← c.self.view_is) (outside_listed w c.self.invariant.1 c.args.edge _ _ meets)

pub returns-in_default : goal.returns-in_default
returns-in_default c =
    let w : GrowingValue = record { part = part_of c.self.inside.parts; forest = c.self.inside.forest; watched = c.self.inside.watch } in
    let meets : MeetsOutside w c.args.edge c.over_ends-first.result.1 c.over_ends-first.result.0 =
    outside_second w c.args.edge c.over_ends-first.result.0 c.over_ends-first.result.1 _ (ap (λ g. g.edges) c.self.invariant.0.scope.graph)
    c.over_ends-first.ensures.first c.over_ends-first.ensures.second (rw (← c.self.view_is) at c.requires)
    (sym (ap grows c.role.ensures) ∙ no_growth c.role.result c.in_default.not-Plus) in
    rw (← c.self.view_is)
    (record { meets = meets; listed = outside_listed w c.self.invariant.1 c.args.edge _ _ meets })
