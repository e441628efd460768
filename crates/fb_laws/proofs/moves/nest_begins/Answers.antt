use Rattle.fb_graph.proofs.BeginningNests.{nest_begins}
use Rattle.fb_laws.proofs.moves.nest_begins.Goals as goal

pub returns : goal.returns
returns c = nest_begins
