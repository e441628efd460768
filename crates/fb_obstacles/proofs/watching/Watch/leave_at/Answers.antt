use Rattle.std.proofs.Common.{◌∙◌, ◌==◌, ◌&&◌, not, get_or, refl, sym}
use Rattle.std.specs.List.{swap_remove}
use Rattle.std.proofs.lemmas.Grind.{get_or_default_zero}
use Rattle.fb_regions.proofs.Stored.{is_in_taken, length-swapped}
use Rattle.fb_obstacles.proofs.RaisedBounds.{bounded_taken, taken_default}
use Rattle.fb_obstacles.proofs.watching.Watch.leave_at.Goals as goal

pub returns-clause-edges : goal.returns-clause-edges
returns-clause-edges c =
    let watch = c.taken_from_queue-place.new.self in
    let place = c.taken_from_queue-place.result in
    let first = get_or watch.edges place 0 in
    rw c.take_out.ensures
    (λ e.
    is_in_taken watch.edges (swap_remove watch.edges place 0) place first first c.taken_from_queue-place.ensures.within.1 refl
    c.keeps.ensures.distinct (sym (get_or_default_zero watch.edges place first c.taken_from_queue-place.ensures.within.1))
    (taken_default watch.edges place 0 first c.taken_from_queue-place.ensures.within.1) e
    ∙ (λ j. c.taken_from_queue-place.ensures.same.edges e j && not (e == c.taken_from_queue-place.ensures.at j)))

pub returns-clause-bounds : goal.returns-clause-bounds
returns-clause-bounds c =
    rw c.take_out.ensures
    (λ limit bounded.
    bounded_taken limit c.taken_from_queue-place.new.self c.taken_from_queue-place.result c.keeps.ensures.bounds
    c.taken_from_queue-place.ensures.within.1 (c.taken_from_queue-place.ensures.same.bounds limit bounded))

pub returns-clause-len : goal.returns-clause-len
returns-clause-len c =
    rw c.take_out.ensures
    (length-swapped c.taken_from_queue-place.new.self.edges c.taken_from_queue-place.result 0
    c.taken_from_queue-place.ensures.within.1
    ∙ c.taken_from_queue-place.ensures.same.len)
