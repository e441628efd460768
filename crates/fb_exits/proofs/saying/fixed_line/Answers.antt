use Rattle.std.proofs.Common.{refl}
use Rattle.fb_exits.proofs.saying.fixed_line.Goals as goal

pub returns-in-ReadFault : goal.returns-in-ReadFault
returns-in-ReadFault c = rw c.in-ReadFault.is refl
