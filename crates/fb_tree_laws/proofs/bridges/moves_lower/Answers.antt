use Rattle.fb_laws.proofs.MoveBridges.{uncovered_lowers, absorbed_lowers, joining_lowers}
use Rattle.fb_tree_laws.proofs.bridges.moves_lower.Goals as goal

pub returns-clause-uncovered : goal.returns-clause-uncovered
returns-clause-uncovered c = uncovered_lowers

pub returns-clause-absorbed : goal.returns-clause-absorbed
returns-clause-absorbed c = absorbed_lowers

pub returns-clause-joined : goal.returns-clause-joined
returns-clause-joined c = joining_lowers
