use Rattle.fb_obstacles.proofs.QueuedEdges.{reorders_on}
use Rattle.fb_obstacles.proofs.watching.Watch.requeue.Goals as goal

pub returns : goal.returns
returns c = reorders_on _ _ _ c.queued_from-from.ensures c.queue_from.ensures
