use Rattle.fb_laws.proofs.SearchStates.{search_begins, search_permuted}
use Rattle.fb_tree_laws.proofs.searches.search_begins.Goals as goal

pub returns-clause-begins : goal.returns-clause-begins
returns-clause-begins c = search_begins

pub returns-clause-permuted : goal.returns-clause-permuted
returns-clause-permuted c = search_permuted
