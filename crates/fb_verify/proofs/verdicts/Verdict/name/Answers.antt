use Rattle.std.proofs.Common.{refl}
use Rattle.fb_verify.proofs.verdicts.Verdict.name.Goals as goal

pub returns-in-Overloaded : goal.returns-in-Overloaded
returns-in-Overloaded c = rw c.in-Overloaded.is refl
