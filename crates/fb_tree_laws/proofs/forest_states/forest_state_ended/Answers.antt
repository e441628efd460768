use Rattle.fb_laws.proofs.ForestMatched.{forest_state_matched}
use Rattle.fb_laws.proofs.ForestMoves.{forest_state_ended, forest_state_met, forest_state_released}
use Rattle.fb_tree_laws.proofs.forest_states.forest_state_ended.Goals as goal

pub returns-clause-boundary : goal.returns-clause-boundary
returns-clause-boundary c = forest_state_ended

pub returns-clause-released : goal.returns-clause-released
returns-clause-released c = forest_state_released

pub returns-clause-waiting : goal.returns-clause-waiting
returns-clause-waiting c = forest_state_matched

pub returns-clause-met : goal.returns-clause-met
returns-clause-met c = forest_state_met
