use Rattle.fb_laws.proofs.SolvedRows.{best_of_whole, solved_is_best}
use Rattle.fb_laws.proofs.rows.solved_is_best.Goals as goal

pub returns-clause-best : goal.returns-clause-best
returns-clause-best c = solved_is_best

pub returns-clause-whole : goal.returns-clause-whole
returns-clause-whole c = best_of_whole
