use Rattle.std.proofs.Common.{arith}
use Rattle.fb_obstacles.proofs.QueuedEdges.{reorders_on}
use Rattle.fb_obstacles.proofs.watching.Watch.queue_from.Goals as goal

pub loop-place-preserved : goal.loop-place-preserved
loop-place-preserved c = record {
  behind = omega (arith, c.queue_at.ensures.queued, c.loop-place.invariant.behind);
  same = reorders_on _ _ _ c.loop-place.invariant.same c.queue_at.ensures.same;
}
