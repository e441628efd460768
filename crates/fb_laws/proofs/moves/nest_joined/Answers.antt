use Rattle.fb_graph.proofs.JoinedNests.{nest_joined}
use Rattle.fb_laws.proofs.moves.nest_joined.Goals as goal

pub returns : goal.returns
returns c = nest_joined
