use Rattle.fb_graph.proofs.ShiftedRows.{best_has_no_odd, best_weighs_least, unshifted_is_best}
use Rattle.fb_graph.proofs.laws.best_corrections.Goals as goal

pub returns-clause-best : goal.returns-clause-best
returns-clause-best c = unshifted_is_best

pub returns-clause-least : goal.returns-clause-least
returns-clause-least c = best_weighs_least

pub returns-clause-even : goal.returns-clause-even
returns-clause-even c = best_has_no_odd
