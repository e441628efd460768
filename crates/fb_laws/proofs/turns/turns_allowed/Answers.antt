use Rattle.fb_graph.proofs.StepTurns.{growth_allowed, shrink_allowed}
use Rattle.fb_laws.proofs.turns.turns_allowed.Goals as goal

pub returns-clause-grow : goal.returns-clause-grow
returns-clause-grow c = growth_allowed

pub returns-clause-shrink : goal.returns-clause-shrink
returns-clause-shrink c = shrink_allowed
