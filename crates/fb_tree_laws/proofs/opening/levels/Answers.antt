use Rattle.fb_laws.proofs.OpenedLevels.{within_once, first_level, next_level, level_permuted, levels_opened}
use Rattle.fb_tree_laws.proofs.opening.levels.Goals as goal

pub returns-clause-within : goal.returns-clause-within
returns-clause-within c = within_once

pub returns-clause-first : goal.returns-clause-first
returns-clause-first c = first_level

pub returns-clause-next : goal.returns-clause-next
returns-clause-next c = next_level

pub returns-clause-permuted : goal.returns-clause-permuted
returns-clause-permuted c = level_permuted

pub returns-clause-opened : goal.returns-clause-opened
returns-clause-opened c = levels_opened
