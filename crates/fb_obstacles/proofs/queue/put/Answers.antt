use Rattle.std.proofs.Common.{◌∷◌}
use Rattle.std.specs.BinaryHeap.{heap_capacity, heap_items, heap_len}
use Rattle.std.proofs.lemmas.List.Sorted.{IsPermutation-map}
use Rattle.std.specs.declared.cmp.Reverse.{Reverse}
use Rattle.fb_obstacles.specs.declared.queue.Due.{Due}
use Rattle.fb_obstacles.proofs.DueLists.{heap_put}
use Rattle.fb_obstacles.proofs.queue.put.Goals as goal

pub returns-clause-items : goal.returns-clause-items
returns-clause-items c =
    let x : Reverse Due = record { 0 = c.args.due } in
    IsPermutation-map (λ (r : Reverse Due). r.0) (x ∷ heap_items c.args.heap.now) (heap_items c.push.new.self) c.in-Ok.ensures.permutation

pub returns-clause-heap : goal.returns-clause-heap
returns-clause-heap c =
    heap_put (record { 0 = c.args.due }) (heap_items c.args.heap.now) (heap_items c.push.new.self) (heap_len c.args.heap.now)
    (heap_len c.push.new.self) (heap_capacity c.args.heap.now) (heap_capacity c.push.new.self) c.requires.small
    c.in-Ok.ensures.permutation c.in-Ok.ensures.heap_order c.in-Ok.ensures.len c.requires.room c.in-Ok.ensures.capacity
