use Rattle.fb_laws.proofs.LayeredSearches.{search_alike, taller_covered}
use Rattle.fb_graph.proofs.TallerNodes.{taller_alike, taller_covers}
use Rattle.fb_tree_laws.proofs.layers.search_layers.Goals as goal

pub returns-clause-alike : goal.returns-clause-alike
returns-clause-alike c = search_alike

pub returns-clause-taller : goal.returns-clause-taller
returns-clause-taller c = taller_alike

pub returns-clause-covers : goal.returns-clause-covers
returns-clause-covers c = taller_covers

pub returns-clause-covered : goal.returns-clause-covered
returns-clause-covered c = taller_covered
