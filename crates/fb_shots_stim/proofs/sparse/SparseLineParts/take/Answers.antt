use Rattle.std.proofs.Common.{arith}
use Rattle.std.proofs.lemmas.Grind.{common_steps}
use Rattle.fb_shots_stim.proofs.sparse.SparseLineParts.take.Goals as goal

pub returns-in_default-index_of-clause-refused : goal.returns-in_default-index_of-clause-refused
returns-in_default-index_of-clause-refused c = grind (arith, common_steps)

pub returns-in-68-clause-ok : goal.returns-in-68-clause-ok
returns-in-68-clause-ok c = grind (arith, common_steps)

pub returns-in-68-clause-refused : goal.returns-in-68-clause-refused
returns-in-68-clause-refused c = grind (arith, common_steps)

pub returns-in-76-clause-ok : goal.returns-in-76-clause-ok
returns-in-76-clause-ok c = grind (arith, common_steps)

pub returns-in-77-clause-refused : goal.returns-in-77-clause-refused
returns-in-77-clause-refused c = grind (arith, common_steps)
