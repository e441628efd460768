use Rattle.std.specs.BinaryHeap.{heap_items}
use Rattle.fb_obstacles.proofs.DueLists.{first_of, least_due}
use Rattle.fb_obstacles.proofs.queue.DueTimes.first.Goals as goal

pub returns-clause-first : goal.returns-clause-first
returns-clause-first c =
    rw (← c.self.view_is)
    (first_of c.in_ok-due.field-0.now (heap_items c.self.inside.heap) c.in_ok-due.ensures.item.3.0 c.in_ok-due.ensures.lookup)

pub returns-clause-least : goal.returns-clause-least
returns-clause-least c =
    rw (← c.self.view_is)
    (λ v k is.
    least_due c.in_ok-due.field-0.now (heap_items c.self.inside.heap) (c.in_ok-due.ensures.greatest c.self.invariant.ordered) v k is)
