use Rattle.fb_laws.proofs.ForestParts.{forest_state_free}
use Rattle.fb_tree_laws.proofs.forest_states.forest_state_free.Goals as goal

pub returns : goal.returns
returns c = forest_state_free
