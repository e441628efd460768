use Rattle.fb_laws.proofs.ForestSteps.{forest_stepped}
use Rattle.fb_tree_laws.proofs.forests.forest_stepped.Goals as goal

pub returns : goal.returns
returns c = forest_stepped
