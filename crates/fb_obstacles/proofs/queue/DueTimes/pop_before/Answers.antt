use Rattle.std.specs.BinaryHeap.{heap_capacity, heap_items, heap_len}
use Rattle.fb_obstacles.proofs.DueLists.{heap_popped, popped_due}
use Rattle.fb_obstacles.proofs.queue.DueTimes.pop_before.Goals as goal

pub invariant_of-self-2 : goal.invariant_of-self-2
invariant_of-self-2 c =
    heap_popped c.in_ok-due.field-0 (heap_items c.self-2.inside.heap) (heap_items c.pop.new.self) (heap_len c.self-2.inside.heap)
    (heap_len c.pop.new.self) (heap_capacity c.self-2.inside.heap) (heap_capacity c.pop.new.self) c.in_ok-due.ensures.permutation
    (λ heap. (c.in_ok-due.ensures.heap_order heap).0) c.in_ok-due.ensures.len c.in_ok-due.ensures.capacity c.self-2.invariant

pub returns-clause-taken : goal.returns-clause-taken
returns-clause-taken c =
    rw (← c.self-2.view_is)
    (λ v k.
    popped_due c.in_ok-due.field-0 (heap_items c.self-2.inside.heap) (heap_items c.pop.new.self)
    c.in_ok-due.ensures.permutation v k)
