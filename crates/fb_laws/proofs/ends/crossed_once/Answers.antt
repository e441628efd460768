use Rattle.fb_graph.proofs.EndSums.{ends_by_crossings, crossed_once}
use Rattle.fb_laws.proofs.ends.crossed_once.Goals as goal

pub returns-clause-ends : goal.returns-clause-ends
returns-clause-ends c = ends_by_crossings

pub returns-clause-once : goal.returns-clause-once
returns-clause-once c = crossed_once
