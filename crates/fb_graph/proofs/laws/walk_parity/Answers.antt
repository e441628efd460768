use Rattle.fb_graph.proofs.Walks.{walk_parity}
use Rattle.fb_graph.proofs.laws.walk_parity.Goals as goal

pub returns : goal.returns
returns c = walk_parity
