use Rattle.fb_laws.proofs.SearchStates.{search_stepped}
use Rattle.fb_tree_laws.proofs.searches.search_stepped.Goals as goal

pub returns : goal.returns
returns c = search_stepped
