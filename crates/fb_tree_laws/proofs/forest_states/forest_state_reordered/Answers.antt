use Rattle.fb_laws.proofs.ForestParts.{forest_state_permuted, forest_state_relisted}
use Rattle.fb_tree_laws.proofs.forest_states.forest_state_reordered.Goals as goal

pub returns-clause-permuted : goal.returns-clause-permuted
returns-clause-permuted c = forest_state_permuted

pub returns-clause-relisted : goal.returns-clause-relisted
returns-clause-relisted c = forest_state_relisted
