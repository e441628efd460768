use Rattle.fb_graph.proofs.OddComponents.{closed_is_odd}
use Rattle.fb_graph.proofs.OddComponents.{least_is_first_odd}
use Rattle.fb_graph.proofs.OddComponents.{some_is_first_odd}
use Rattle.fb_graph.proofs.laws.closed_odd_set.Goals as goal

pub returns-clause-odd : goal.returns-clause-odd
returns-clause-odd c = closed_is_odd

pub returns-clause-first : goal.returns-clause-first
returns-clause-first c = least_is_first_odd

pub returns-clause-some : goal.returns-clause-some
returns-clause-some c = some_is_first_odd
