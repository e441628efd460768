use Rattle.fb_graph.proofs.OddComponents.{certified_has_no_odd}
use Rattle.fb_graph.proofs.OddComponents.{no_correction}
use Rattle.fb_graph.proofs.laws.odd_has_no_correction.Goals as goal

pub returns-clause-none : goal.returns-clause-none
returns-clause-none c = no_correction

pub returns-clause-certified : goal.returns-clause-certified
returns-clause-certified c = certified_has_no_odd
