use Rattle.std.proofs.Common.{get_or, arith}
use Rattle.std.proofs.lemmas.Bool.{eq-eqb}
use Rattle.fb_obstacles.proofs.RaisedBounds.{bounded_set}
use Rattle.fb_obstacles.proofs.watching.Watch.enter_with.Goals as goal

pub returns-clause-bounds : goal.returns-clause-bounds
returns-clause-bounds c =
    let entered = c.place_entered-place.new.self in
    let place = c.place_entered-place.result in
    let there = get_or entered.edges place 0 in
    rw c.set_bound.ensures.rest
    (λ before after less enough right.
    bounded_set after entered place (get_or c.set_bound.new.self.bounds place 0) (c.place_entered-place.ensures.bounds before after less right)
    (omega (arith, c.set_bound.ensures.most, enough there (eq-eqb there c.args.edge c.place_entered-place.ensures.at))))
