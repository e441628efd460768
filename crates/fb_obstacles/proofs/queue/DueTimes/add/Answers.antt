use Rattle.std.specs.BinaryHeap.{heap_items}
use Rattle.fb_obstacles.specs.InternalHeap.{due_times}
use Rattle.fb_obstacles.proofs.DueLists.{put_is_due, put_still_due}
use Rattle.fb_obstacles.proofs.queue.DueTimes.add.Goals as goal

pub returns-clause-added : goal.returns-clause-added
returns-clause-added c =
    put_is_due _ (due_times (heap_items c.reserve.new.self)) (due_times (heap_items c.put.new.heap)) c.put.ensures.items

pub returns-clause-kept : goal.returns-clause-kept
returns-clause-kept c =
    rw (← c.self.view_is, ← c.in_ok-reserve.ensures.items)
    (put_still_due _ (due_times (heap_items c.reserve.new.self)) (due_times (heap_items c.put.new.heap)) c.put.ensures.items)
