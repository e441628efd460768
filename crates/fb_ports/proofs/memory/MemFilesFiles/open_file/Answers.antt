use Rattle.std.proofs.Common.{arith}
use Rattle.std.proofs.lemmas.Grind.{common_steps}
use Rattle.fb_ports.proofs.memory.MemFilesFiles.open_file.Goals as goal

pub unreachable-requires : goal.unreachable-requires
unreachable-requires c = grind (arith, common_steps)

pub returns-then-is_none-clause-asks : goal.returns-then-is_none-clause-asks
returns-then-is_none-clause-asks c = grind (arith, common_steps)

pub returns-then-is_none-clause-cause : goal.returns-then-is_none-clause-cause
returns-then-is_none-clause-cause c = rw (← c.self.view_is) (omega arith, omega arith)

pub returns-clause-asks : goal.returns-clause-asks
returns-clause-asks c = grind (arith, common_steps)
