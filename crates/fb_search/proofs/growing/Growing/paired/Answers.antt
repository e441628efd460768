use Rattle.std.proofs.Common.{ap}
use Rattle.fb_half.specs.Values.{part_of}
use Rattle.fb_search.specs.InternalGrowing.{GrowingValue}
use Rattle.fb_search.specs.InternalTreeMeetings.{IsGrowingPair}
use Rattle.fb_search.proofs.PairedTrees.{first_plus, paired_held, paired_over, second_plus}
use Rattle.fb_search.proofs.growing.Growing.paired.Goals as goal

pub over_ends-requires-clause-covered : goal.over_ends-requires-clause-covered
over_ends-requires-clause-covered c =
    let w : GrowingValue = record { part = part_of c.self.inside.parts; forest = c.self.inside.forest; watched = c.self.inside.watch } in
    paired_held w c.args.edge _ (ap (λ g. g.edges) c.self.invariant.0.scope.graph) (rw (← c.self.view_is) at c.requires)

pub returns : goal.returns
returns c =
    let w : GrowingValue = record { part = part_of c.self.inside.parts; forest = c.self.inside.forest; watched = c.self.inside.watch } in
    let pair : IsGrowingPair w c.args.edge c.over_ends.result.0 c.over_ends.result.1 =
    paired_over w c.args.edge c.over_ends.result.0 c.over_ends.result.1 _ (ap (λ g. g.edges) c.self.invariant.0.scope.graph)
    c.over_ends.ensures.first c.over_ends.ensures.second (rw (← c.self.view_is) at c.requires) in
    rw (← c.self.view_is)
    (record {
      pair = pair;
      first = first_plus w c.args.edge _ _ c.self.invariant.1 pair;
      second = second_plus w c.args.edge _ _ c.self.invariant.1 pair;
    })
