use Rattle.fb_laws.proofs.ForestMoves.{forest_state_attached, forest_state_woken}
use Rattle.fb_tree_laws.proofs.forest_states.forest_state_attached.Goals as goal

pub returns-clause-attached : goal.returns-clause-attached
returns-clause-attached c = forest_state_attached

pub returns-clause-woken : goal.returns-clause-woken
returns-clause-woken c = forest_state_woken
