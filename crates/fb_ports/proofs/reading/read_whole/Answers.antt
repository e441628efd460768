use Rattle.std.proofs.Common.{arith, refl}
use Rattle.std.proofs.lemmas.Grind.{common_steps}
use Rattle.fb_ports.proofs.reading.read_whole.Goals as goal

pub returns-in_default-read_at_most-clause-bytes : goal.returns-in_default-read_at_most-clause-bytes
returns-in_default-read_at_most-clause-bytes g c = tt

pub returns-in_default-read_at_most-clause-short : goal.returns-in_default-read_at_most-clause-short
returns-in_default-read_at_most-clause-short g c = tt

pub returns-in_default-read_at_most-clause-end : goal.returns-in_default-read_at_most-clause-end
returns-in_default-read_at_most-clause-end g c = tt

pub returns-in_default-read_at_most-clause-reported : goal.returns-in_default-read_at_most-clause-reported
returns-in_default-read_at_most-clause-reported g c = λ rises. refl

pub returns-in_default-read_at_most-clause-taken : goal.returns-in_default-read_at_most-clause-taken
returns-in_default-read_at_most-clause-taken g c = grind (arith, common_steps)

pub returns-then-count-eq0-clause-taken : goal.returns-then-count-eq0-clause-taken
returns-then-count-eq0-clause-taken g c = grind (arith, common_steps)

pub returns-then-is_err-clause-taken : goal.returns-then-is_err-clause-taken
returns-then-is_err-clause-taken g c = grind (arith, common_steps)

pub loop-files-preserved : goal.loop-files-preserved
loop-files-preserved g c = grind (arith, common_steps)

pub returns-clause-long : goal.returns-clause-long
returns-clause-long g c = grind (arith, common_steps)

pub returns-clause-taken : goal.returns-clause-taken
returns-clause-taken g c = grind (arith, common_steps)
