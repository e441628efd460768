use Rattle.fb_laws.proofs.ForestMoves.{forest_state_absorbed, forest_state_stepped, forest_state_uncovered}
use Rattle.fb_tree_laws.proofs.forest_states.forest_state_layers.Goals as goal

pub returns-clause-stepped : goal.returns-clause-stepped
returns-clause-stepped c = forest_state_stepped

pub returns-clause-absorbed : goal.returns-clause-absorbed
returns-clause-absorbed c = forest_state_absorbed

pub returns-clause-uncovered : goal.returns-clause-uncovered
returns-clause-uncovered c = forest_state_uncovered
