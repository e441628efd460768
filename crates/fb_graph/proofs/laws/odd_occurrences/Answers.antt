use Rattle.fb_graph.proofs.OddOnes.{odd_ones_count}
use Rattle.fb_graph.proofs.OddOnes.{odd_ones_rise}
use Rattle.fb_graph.proofs.OddOnes.{odd_ones_weigh}
use Rattle.fb_graph.proofs.laws.odd_occurrences.Goals as goal

pub returns-clause-rise : goal.returns-clause-rise
returns-clause-rise c = odd_ones_rise

pub returns-clause-count : goal.returns-clause-count
returns-clause-count c = odd_ones_count

pub returns-clause-weigh : goal.returns-clause-weigh
returns-clause-weigh c = odd_ones_weigh
