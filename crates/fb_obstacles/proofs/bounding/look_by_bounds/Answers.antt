use Rattle.fb_obstacles.proofs.BoundedScans.{scanned_requeued}
use Rattle.fb_obstacles.proofs.bounding.look_by_bounds.Goals as goal

pub returns-clause-scanned : goal.returns-clause-scanned
returns-clause-scanned g c = scanned_requeued _ _ _ _ _ _ _ _ c.scan_by_bounds-look.ensures.scanned c.requeue.ensures
