use Rattle.std.proofs.Common.{◌+◌, ◌*◌}
use Rattle.fb_crew.proofs.crew.+fn-work_each-others+work_each.Given as goal

-- the members that are left
abbrev pub decreases-work_each : goal.decreases-work_each
decreases-work_each g l = 2 * l.members.len

-- the closure has one member less, and calls the function with them
abbrev pub decreases-others : goal.decreases-others
decreases-others g l = 2 * l.members.len + 1
