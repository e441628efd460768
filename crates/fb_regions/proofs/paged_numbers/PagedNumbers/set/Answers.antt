use Rattle.std.proofs.Common.{◌<◌, length, arith}
use Rattle.fb_regions.specs.InternalPages.{numbers_of}
use Rattle.fb_regions.proofs.Paged.{length-numbers, number_set}
use Rattle.fb_regions.proofs.paged_numbers.PagedNumbers.set.Goals as goal

pub filled-place-requires-clause-page : goal.filled-place-requires-clause-page
filled-place-requires-clause-page c =
    let below : c.args.index < length (numbers_of c.self.inside.count c.self.inside.places.items c.self.inside.numbers.items) = rw (← c.self.view_is) at c.requires in
    omega (arith, below, length-numbers c.self.inside.count c.self.inside.places.items c.self.inside.numbers.items, c.self.invariant.0)

pub returns : goal.returns
returns c =
    let below : c.args.index < length (numbers_of c.self.inside.count c.self.inside.places.items c.self.inside.numbers.items) = rw (← c.self.view_is) at c.requires in
    rw (← c.self.view_is)
    (number_set _ _ _ c.filled-place.ensures.paged c.self.inside.count c.args.index c.args.number _ _ _ c.filled-place.ensures.same
    (omega (arith, below, length-numbers c.self.inside.count c.self.inside.places.items c.self.inside.numbers.items)) (omega (arith, c.filled-place.ensures.place))
    (omega (arith, c.filled-place.ensures.within)))
