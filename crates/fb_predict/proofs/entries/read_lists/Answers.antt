use Rattle.std.proofs.Common.{arith}
use Rattle.fb_predict.proofs.FaultyEntries.{lists_of_value}
use Rattle.fb_predict.proofs.entries.read_lists.Goals as goal

pub returns-in-Ok-clause-err : goal.returns-in-Ok-clause-err
returns-in-Ok-clause-err c =
    rw (lists_of_value _ _ (omega arith) c.in-Ok.ensures.value) c.lists_in.ensures.err
