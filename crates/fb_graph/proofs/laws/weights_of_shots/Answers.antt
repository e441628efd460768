use Rattle.fb_graph.proofs.ShotGraphs.{same_first_odd, same_flips}
use Rattle.fb_graph.proofs.ShiftedShots.{shot_graph_is_graph}
use Rattle.fb_graph.proofs.laws.weights_of_shots.Goals as goal

pub returns-clause-graph : goal.returns-clause-graph
returns-clause-graph c = shot_graph_is_graph

pub returns-clause-odd : goal.returns-clause-odd
returns-clause-odd c = same_first_odd

pub returns-clause-flips : goal.returns-clause-flips
returns-clause-flips c = same_flips
