use Rattle.std.proofs.Common.{refl}
use Rattle.fb_gen.proofs.faults.GenFault.name.Goals as goal

pub returns-in-TooFewRounds : goal.returns-in-TooFewRounds
returns-in-TooFewRounds c = rw c.in-TooFewRounds.is refl
