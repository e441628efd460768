use Rattle.std.specs.BinaryHeap.{heap_capacity, heap_items, heap_len}
use Rattle.fb_obstacles.proofs.DueLists.{heap_popped, left_others}
use Rattle.fb_obstacles.proofs.queue.DueTimes.drop_first.Goals as goal

pub invariant_of-self-2 : goal.invariant_of-self-2
invariant_of-self-2 c =
    heap_popped c.in-Some.field-0 (heap_items c.self.inside.heap) (heap_items c.pop.new.self) (heap_len c.self.inside.heap)
    (heap_len c.pop.new.self) (heap_capacity c.self.inside.heap) (heap_capacity c.pop.new.self) c.in-Some.ensures.permutation
    (λ heap. (c.in-Some.ensures.heap_order heap).0) c.in-Some.ensures.len c.in-Some.ensures.capacity c.self.invariant

pub returns-clause-kept : goal.returns-clause-kept
returns-clause-kept c =
    rw (← c.self.view_is)
    (λ first is.
    (left_others c.in-Some.field-0 (heap_items c.self.inside.heap) (heap_items c.pop.new.self)
    c.in-Some.ensures.top c.in-Some.ensures.permutation first is).1)
