use Rattle.fb_laws.proofs.OpenedLevels.{last_level, level_solved}
use Rattle.fb_tree_laws.proofs.opening.last_level.Goals as goal

pub returns-clause-perfect : goal.returns-clause-perfect
returns-clause-perfect c = last_level

pub returns-clause-solved : goal.returns-clause-solved
returns-clause-solved c = level_solved
