use Rattle.std.proofs.Common.{arith}
use Rattle.fb_ports.proofs.memory.MemSinkSink.put.Goals as goal

pub returns-then-planned-clause-cause : goal.returns-then-planned-clause-cause
returns-then-planned-clause-cause c = rw (← c.self.view_is) (omega arith, omega arith)
