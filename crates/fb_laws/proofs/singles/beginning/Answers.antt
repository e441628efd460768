use Rattle.fb_graph.proofs.SingleStates.{singles_are_dual, beginning_is_dual}
use Rattle.fb_laws.proofs.singles.beginning.Goals as goal

pub returns-clause-singles : goal.returns-clause-singles
returns-clause-singles c = singles_are_dual

pub returns-clause-bare : goal.returns-clause-bare
returns-clause-bare c = beginning_is_dual
