use Rattle.std.proofs.Common.{arith}
use Rattle.fb_blossoms.proofs.cycles.round_from.Goals as goal

pub returns-clause-even : goal.returns-clause-even
returns-clause-even c = omega arith
