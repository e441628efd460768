use Rattle.fb_graph.proofs.Matching.{resolving}
use Rattle.fb_graph.proofs.laws.resolving.Goals as goal

pub returns : goal.returns
returns c = resolving
