use Rattle.fb_graph.proofs.Duality.{weak_duality}
use Rattle.fb_graph.proofs.laws.weak_duality.Goals as goal

pub returns : goal.returns
returns c = weak_duality
