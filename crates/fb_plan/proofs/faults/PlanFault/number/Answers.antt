use Rattle.std.proofs.Common.{refl}
use Rattle.fb_plan.proofs.faults.PlanFault.number.Goals as goal

pub returns-in-BadRange : goal.returns-in-BadRange
returns-in-BadRange c = rw c.in-BadRange.is refl
