use Rattle.fb_laws.proofs.ForestBlossoms.{forest_cycle_counted, forest_state_closed, forest_state_joined, forest_state_rounded}
use Rattle.fb_tree_laws.proofs.forest_states.forest_state_joined.Goals as goal

pub returns-clause-branches : goal.returns-clause-branches
returns-clause-branches c = forest_state_joined

pub returns-clause-cycle : goal.returns-clause-cycle
returns-clause-cycle c = forest_state_closed

pub returns-clause-round : goal.returns-clause-round
returns-clause-round c = forest_state_rounded

pub returns-clause-counted : goal.returns-clause-counted
returns-clause-counted c = forest_cycle_counted
