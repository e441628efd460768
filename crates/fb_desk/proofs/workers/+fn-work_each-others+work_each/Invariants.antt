use Rattle.std.proofs.Common.{◌+◌, ◌*◌}
use Rattle.fb_desk.proofs.workers.+fn-work_each-others+work_each.Given as goal

-- the seats that are left
abbrev pub decreases-work_each : goal.decreases-work_each
decreases-work_each g l = 2 * l.seats.len

-- the closure has one seat less, and calls the function with it
abbrev pub decreases-others : goal.decreases-others
decreases-others g l = 2 * l.seats.len + 1
