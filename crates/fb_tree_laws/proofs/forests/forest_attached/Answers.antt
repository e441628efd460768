use Rattle.fb_laws.proofs.ForestStates.{forest_attached}
use Rattle.fb_tree_laws.proofs.forests.forest_attached.Goals as goal

pub returns : goal.returns
returns c = forest_attached
