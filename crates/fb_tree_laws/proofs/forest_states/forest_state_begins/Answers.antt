use Rattle.fb_laws.proofs.ForestParts.{forest_state_begins, forest_state_done}
use Rattle.fb_tree_laws.proofs.forest_states.forest_state_begins.Goals as goal

pub returns-clause-begins : goal.returns-clause-begins
returns-clause-begins c = forest_state_begins

pub returns-clause-done : goal.returns-clause-done
returns-clause-done c = forest_state_done
