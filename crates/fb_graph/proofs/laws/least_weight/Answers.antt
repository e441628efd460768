use Rattle.fb_graph.proofs.Duality.{equal_weights}
use Rattle.fb_graph.proofs.Duality.{least_weight}
use Rattle.fb_graph.proofs.laws.least_weight.Goals as goal

pub returns-clause-least : goal.returns-clause-least
returns-clause-least c = least_weight

pub returns-clause-same : goal.returns-clause-same
returns-clause-same c = equal_weights
