use Rattle.fb_graph.proofs.Shifts.{signed_solved, signed_least}
use Rattle.fb_graph.proofs.laws.signed_solution.Goals as goal

pub returns-clause-solved : goal.returns-clause-solved
returns-clause-solved c = signed_solved

pub returns-clause-least : goal.returns-clause-least
returns-clause-least c = signed_least
