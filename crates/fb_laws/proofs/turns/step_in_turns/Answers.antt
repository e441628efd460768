use Rattle.fb_graph.proofs.StepTurns.{no_turn, shrunk_next, grown_next, same_roles, top_stepped}
use Rattle.fb_laws.proofs.turns.step_in_turns.Goals as goal

pub returns-clause-none : goal.returns-clause-none
returns-clause-none c = no_turn

pub returns-clause-shrunk : goal.returns-clause-shrunk
returns-clause-shrunk c = shrunk_next

pub returns-clause-grown : goal.returns-clause-grown
returns-clause-grown c = grown_next

pub returns-clause-same : goal.returns-clause-same
returns-clause-same c = same_roles

pub returns-clause-top : goal.returns-clause-top
returns-clause-top c = top_stepped
