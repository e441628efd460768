use Rattle.std.proofs.Common.{refl}
use Rattle.fb_obstacles.proofs.watching.Watch.queued_from.Goals as goal

pub returns : goal.returns
returns c =
    rw c.leave_queue.ensures
    (record { count = refl; edges = λ e. refl; len = refl; nodes = refl; bounds = λ limit right. right })
