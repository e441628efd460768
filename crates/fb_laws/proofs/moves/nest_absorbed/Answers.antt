use Rattle.fb_graph.proofs.RaisedNests.{nest_absorbed}
use Rattle.fb_laws.proofs.moves.nest_absorbed.Goals as goal

pub returns : goal.returns
returns c = nest_absorbed
