use Rattle.std.proofs.Common.{◌≡◌, true, subst, sym, arith}
use Rattle.std.specs.BinaryHeap.{heap_capacity, heap_items, heap_len}
use Rattle.fb_obstacles.specs.declared.queue.Due.{Due}
use Rattle.fb_obstacles.specs.InternalHeap.{due_times}
use Rattle.fb_obstacles.specs.InternalQueue.{is_due}
use Rattle.fb_obstacles.proofs.DueLists.{heap_popped, left_others, put_is_due, put_still_due}
use Rattle.fb_obstacles.proofs.queue.DueTimes.postpone_first.Goals as goal

pub put-requires-clause-room : goal.put-requires-clause-room
put-requires-clause-room c = omega (arith, c.in-Some.ensures.len, c.in-Some.ensures.capacity, c.self.invariant.room)

pub invariant_of-self-2 : goal.invariant_of-self-2
invariant_of-self-2 c =
    c.put.ensures.heap (
    heap_popped c.in-Some.field-0 (heap_items c.self.inside.heap) (heap_items c.pop.new.self) (heap_len c.self.inside.heap)
    (heap_len c.pop.new.self) (heap_capacity c.self.inside.heap) (heap_capacity c.pop.new.self) c.in-Some.ensures.permutation
    (λ heap. (c.in-Some.ensures.heap_order heap).0) c.in-Some.ensures.len c.in-Some.ensures.capacity c.self.invariant)

pub returns-clause-kept : goal.returns-clause-kept
returns-clause-kept c =
    rw (← c.self.view_is)
    (λ first is v k apart due.
    put_still_due _ (due_times (heap_items c.pop.new.self)) (due_times (heap_items c.put.new.heap)) c.put.ensures.items v k
    ((left_others c.in-Some.field-0 (heap_items c.self.inside.heap) (heap_items c.pop.new.self)
    c.in-Some.ensures.top c.in-Some.ensures.permutation first is).1 v k apart due))

pub returns-clause-added : goal.returns-clause-added
returns-clause-added c =
    rw (← c.self.view_is)
    (λ first is.
    subst (λ (d : Due). is_due (due_times (heap_items c.put.new.heap)) c.args.growth d.number ≡ true)
    (sym (left_others c.in-Some.field-0 (heap_items c.self.inside.heap) (heap_items c.pop.new.self)
    c.in-Some.ensures.top c.in-Some.ensures.permutation first is).0)
    (put_is_due _ (due_times (heap_items c.pop.new.self)) (due_times (heap_items c.put.new.heap)) c.put.ensures.items))
