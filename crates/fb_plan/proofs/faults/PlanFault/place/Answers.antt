use Rattle.std.proofs.Common.{refl}
use Rattle.fb_plan.proofs.faults.PlanFault.place.Goals as goal

pub returns-in-TooLong : goal.returns-in-TooLong
returns-in-TooLong c = rw c.in-TooLong.is refl
