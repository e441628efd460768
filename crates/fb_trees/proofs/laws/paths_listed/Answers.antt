use Rattle.std.proofs.Common.{sym}
use Rattle.fb_trees.proofs.Paths.{up_from_plus}
use Rattle.fb_trees.proofs.StepLists.{links_up, nodes_up}
use Rattle.fb_trees.proofs.laws.paths_listed.Goals as goal

pub returns-clause-plus : goal.returns-clause-plus
returns-clause-plus c = λ t name rooted plus. sym (up_from_plus t rooted name plus)

pub returns-clause-listed : goal.returns-clause-listed
returns-clause-listed c = λ path. (nodes_up path, links_up path)
