use Rattle.fb_laws.proofs.PotentialParities.{tree_parity_stepped, other_parity_stepped, one_parity_stepped}
use Rattle.fb_laws.proofs.parities.stepped_parity.Goals as goal

pub returns-clause-tree : goal.returns-clause-tree
returns-clause-tree c = tree_parity_stepped

pub returns-clause-other : goal.returns-clause-other
returns-clause-other c = other_parity_stepped

pub returns-clause-one : goal.returns-clause-one
returns-clause-one c = one_parity_stepped
