use Rattle.fb_laws.proofs.JoinedSearches.{search_joined}
use Rattle.fb_laws.proofs.JoinedThree.{three_joining}
use Rattle.fb_laws.proofs.LoweredParts.{joined_lowers}
use Rattle.fb_tree_laws.proofs.joining.search_joined.Goals as goal

pub returns-clause-kept : goal.returns-clause-kept
returns-clause-kept c = search_joined

pub returns-clause-lowers : goal.returns-clause-lowers
returns-clause-lowers c = joined_lowers

pub returns-clause-three : goal.returns-clause-three
returns-clause-three c = three_joining
