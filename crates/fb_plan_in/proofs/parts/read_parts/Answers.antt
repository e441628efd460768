use Rattle.std.proofs.Common.{arith}
use Rattle.fb_plan_in.proofs.Readings.{parts_of_value}
use Rattle.fb_plan_in.proofs.parts.read_parts.Goals as goal

pub returns-in-Ok-clause-err : goal.returns-in-Ok-clause-err
returns-in-Ok-clause-err c =
    rw (parts_of_value _ _ (omega arith) c.in-Ok.ensures.value) c.parts_in.ensures.err
