use Rattle.fb_graph.proofs.ClosedSets.{edge_leaves}
use Rattle.fb_graph.proofs.ClosedSets.{part_has_no_odd_closed}
use Rattle.fb_graph.proofs.laws.no_odd_closed_set.Goals as goal

pub returns-clause-part : goal.returns-clause-part
returns-clause-part c = part_has_no_odd_closed

pub returns-clause-leaves : goal.returns-clause-leaves
returns-clause-leaves c = edge_leaves
