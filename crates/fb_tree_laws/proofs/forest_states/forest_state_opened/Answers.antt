use Rattle.fb_laws.proofs.ForestOpenings.{forest_cycle_along, forest_opened_along, forest_state_opened}
use Rattle.fb_tree_laws.proofs.forest_states.forest_state_opened.Goals as goal

pub returns-clause-kept : goal.returns-clause-kept
returns-clause-kept c = forest_state_opened

pub returns-clause-cycle : goal.returns-clause-cycle
returns-clause-cycle c = forest_cycle_along

pub returns-clause-along : goal.returns-clause-along
returns-clause-along c = forest_opened_along
