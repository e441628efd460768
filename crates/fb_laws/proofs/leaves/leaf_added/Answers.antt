use Rattle.fb_graph.proofs.NewLeaves.{nest_leaf_added, walks_leaf_added}
use Rattle.fb_laws.proofs.leaves.leaf_added.Goals as goal

pub returns-clause-nest : goal.returns-clause-nest
returns-clause-nest c = nest_leaf_added

pub returns-clause-walks : goal.returns-clause-walks
returns-clause-walks c = walks_leaf_added
