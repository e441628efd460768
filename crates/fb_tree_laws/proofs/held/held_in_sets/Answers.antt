use Rattle.fb_laws.proofs.HeldDefects.{covered_is_held, held_in_sets, held_is_covered}
use Rattle.fb_tree_laws.proofs.held.held_in_sets.Goals as goal

pub returns-clause-sets : goal.returns-clause-sets
returns-clause-sets c = held_in_sets

pub returns-clause-covered : goal.returns-clause-covered
returns-clause-covered c = held_is_covered

pub returns-clause-over : goal.returns-clause-over
returns-clause-over c = covered_is_held
