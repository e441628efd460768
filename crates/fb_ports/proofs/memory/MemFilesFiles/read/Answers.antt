use Rattle.std.proofs.Common.{arith}
use Rattle.std.proofs.lemmas.Grind.{common_steps, elements}
use Rattle.fb_ports.proofs.memory.MemFilesFiles.read.Goals as goal

pub copy_from-count-requires : goal.copy_from-count-requires
copy_from-count-requires c = grind (arith, common_steps)

pub invariant_of-self-2 : goal.invariant_of-self-2
invariant_of-self-2 c = grind (arith, common_steps)

pub returns-clause-bytes : goal.returns-clause-bytes
returns-clause-bytes c = grind (arith, elements)

pub returns-clause-piece : goal.returns-clause-piece
returns-clause-piece c = grind (arith, common_steps)
