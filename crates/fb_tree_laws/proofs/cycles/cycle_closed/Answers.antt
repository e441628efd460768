use Rattle.fb_laws.proofs.TreeCycles.{paths_part, cycle_joining, cycle_linked, cycle_many, cycle_minus}
use Rattle.fb_tree_laws.proofs.cycles.cycle_closed.Goals as goal

pub returns-clause-joining : goal.returns-clause-joining
returns-clause-joining c = cycle_joining

pub returns-clause-linked : goal.returns-clause-linked
returns-clause-linked c = cycle_linked

pub returns-clause-many : goal.returns-clause-many
returns-clause-many c = cycle_many

pub returns-clause-minus : goal.returns-clause-minus
returns-clause-minus c = cycle_minus

pub returns-clause-part : goal.returns-clause-part
returns-clause-part c = paths_part
