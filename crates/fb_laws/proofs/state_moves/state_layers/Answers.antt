use Rattle.fb_laws.proofs.StateMoves.{state_absorbed, state_uncovered}
use Rattle.fb_laws.proofs.state_moves.state_layers.Goals as goal

pub returns-clause-absorbed : goal.returns-clause-absorbed
returns-clause-absorbed c = state_absorbed

pub returns-clause-uncovered : goal.returns-clause-uncovered
returns-clause-uncovered c = state_uncovered
