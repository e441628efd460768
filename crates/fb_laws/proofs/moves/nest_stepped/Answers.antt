use Rattle.fb_graph.proofs.SteppedNests.{nest_stepped}
use Rattle.fb_laws.proofs.moves.nest_stepped.Goals as goal

pub returns : goal.returns
returns c = nest_stepped
