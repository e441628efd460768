use Rattle.fb_laws.proofs.NestedStates.{nested_work_begins, nested_search_begins}
use Rattle.fb_tree_laws.proofs.nested.nested_begins.Goals as goal

pub returns-clause-work : goal.returns-clause-work
returns-clause-work c = nested_work_begins

pub returns-clause-search : goal.returns-clause-search
returns-clause-search c = nested_search_begins
