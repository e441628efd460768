use Rattle.std.proofs.Common.{arith}
use Rattle.std.proofs.lemmas.Grind.{common_steps}
use Rattle.fb_gen.proofs.lattices.LatticeLists.push_edges.Goals as goal

pub overflow_add-below : goal.overflow_add-below
overflow_add-below c = grind (arith, common_steps)

pub overflow_add-below-2 : goal.overflow_add-below-2
overflow_add-below-2 c = grind (arith, common_steps)

pub overflow_add-later : goal.overflow_add-later
overflow_add-later c = grind (arith, common_steps)

pub overflow_mul-later : goal.overflow_mul-later
overflow_mul-later c = grind (arith, common_steps)

pub overflow_add-later-2 : goal.overflow_add-later-2
overflow_add-later-2 c = grind (arith, common_steps)

pub returns-clause-edges : goal.returns-clause-edges
returns-clause-edges c = grind (arith, common_steps)
