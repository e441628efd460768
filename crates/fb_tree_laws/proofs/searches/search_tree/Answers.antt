use Rattle.fb_laws.proofs.SearchStates.{search_roles, rest_outside, search_level, search_path}
use Rattle.fb_tree_laws.proofs.searches.search_tree.Goals as goal

pub returns-clause-roles : goal.returns-clause-roles
returns-clause-roles c = search_roles

pub returns-clause-outside : goal.returns-clause-outside
returns-clause-outside c = rest_outside

pub returns-clause-level : goal.returns-clause-level
returns-clause-level c = search_level

pub returns-clause-path : goal.returns-clause-path
returns-clause-path c = search_path
