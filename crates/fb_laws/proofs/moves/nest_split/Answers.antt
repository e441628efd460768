use Rattle.fb_graph.proofs.SplitNests.{nest_split}
use Rattle.fb_laws.proofs.moves.nest_split.Goals as goal

pub returns : goal.returns
returns c = nest_split
