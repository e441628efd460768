use Rattle.fb_laws.proofs.StateMoves.{state_ended, state_met, state_released}
use Rattle.fb_laws.proofs.state_moves.state_ended.Goals as goal

pub returns-clause-boundary : goal.returns-clause-boundary
returns-clause-boundary c = state_ended

pub returns-clause-met : goal.returns-clause-met
returns-clause-met c = state_met

pub returns-clause-released : goal.returns-clause-released
returns-clause-released c = state_released
