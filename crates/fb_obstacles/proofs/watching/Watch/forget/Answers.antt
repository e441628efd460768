use Rattle.std.proofs.Common.{get_or}
use Rattle.fb_obstacles.proofs.ForgottenBounds.{right_forgotten}
use Rattle.fb_obstacles.proofs.watching.Watch.forget.Goals as goal

pub returns-clause-bounds : goal.returns-clause-bounds
returns-clause-bounds c =
    let watch = c.taken_from_queue-place.new.self in
    let place = c.taken_from_queue-place.result in
    rw c.set_bound.ensures.rest
    (λ before after less right.
    right_forgotten watch (get_or c.args.self.now.edges c.args.place 0) place (get_or c.set_bound.new.self.bounds place 0)
    c.keeps.ensures.distinct c.keeps.ensures.bounds c.taken_from_queue-place.ensures.within.1
    c.taken_from_queue-place.ensures.at c.set_bound.ensures.most before after less
    (c.taken_from_queue-place.ensures.same.bounds before right))
