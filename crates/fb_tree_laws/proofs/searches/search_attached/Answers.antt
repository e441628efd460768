use Rattle.fb_laws.proofs.SearchStates.{search_attached}
use Rattle.fb_tree_laws.proofs.searches.search_attached.Goals as goal

pub returns : goal.returns
returns c = search_attached
