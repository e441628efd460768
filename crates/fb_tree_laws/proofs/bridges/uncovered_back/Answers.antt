use Rattle.fb_laws.proofs.MoveBridges.{uncovered_back}
use Rattle.fb_tree_laws.proofs.bridges.uncovered_back.Goals as goal

pub returns : goal.returns
returns c = uncovered_back
