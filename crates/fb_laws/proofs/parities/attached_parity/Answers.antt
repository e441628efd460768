use Rattle.fb_laws.proofs.PotentialParities.{covered_parity, met_parity, linked_parity, parities_joined}
use Rattle.fb_laws.proofs.parities.attached_parity.Goals as goal

pub returns-clause-covered : goal.returns-clause-covered
returns-clause-covered c = covered_parity

pub returns-clause-met : goal.returns-clause-met
returns-clause-met c = met_parity

pub returns-clause-linked : goal.returns-clause-linked
returns-clause-linked c = linked_parity

pub returns-clause-joined : goal.returns-clause-joined
returns-clause-joined c = parities_joined
