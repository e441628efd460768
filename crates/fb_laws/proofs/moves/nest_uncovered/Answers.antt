use Rattle.fb_graph.proofs.LoweredNests.{nest_uncovered}
use Rattle.fb_laws.proofs.moves.nest_uncovered.Goals as goal

pub returns : goal.returns
returns c = nest_uncovered
