use Rattle.fb_laws.proofs.FormedNodes.{matching_formed}
use Rattle.fb_tree_laws.proofs.forming.matching_formed.Goals as goal

pub returns : goal.returns
returns c = matching_formed
