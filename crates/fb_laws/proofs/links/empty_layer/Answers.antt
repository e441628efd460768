use Rattle.fb_graph.proofs.TightLinks.{empty_layer_loads, empty_layer_heights}
use Rattle.fb_laws.proofs.links.empty_layer.Goals as goal

pub returns-clause-loads : goal.returns-clause-loads
returns-clause-loads c = empty_layer_loads

pub returns-clause-heights : goal.returns-clause-heights
returns-clause-heights c = empty_layer_heights
