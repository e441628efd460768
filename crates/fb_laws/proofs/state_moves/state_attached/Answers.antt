use Rattle.fb_laws.proofs.StateMoves.{state_attached}
use Rattle.fb_laws.proofs.state_moves.state_attached.Goals as goal

pub returns : goal.returns
returns c = state_attached
