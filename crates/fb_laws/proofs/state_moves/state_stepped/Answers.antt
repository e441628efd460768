use Rattle.fb_laws.proofs.StateMoves.{state_free, state_stepped}
use Rattle.fb_laws.proofs.state_moves.state_stepped.Goals as goal

pub returns-clause-free : goal.returns-clause-free
returns-clause-free c = state_free

pub returns-clause-stepped : goal.returns-clause-stepped
returns-clause-stepped c = state_stepped
