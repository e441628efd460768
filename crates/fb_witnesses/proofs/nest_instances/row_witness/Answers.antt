use Rattle.fb_witnesses.proofs.SampleSolved.{best_witness, odd_witness}
use Rattle.fb_witnesses.proofs.nest_instances.row_witness.Goals as goal

pub returns-clause-odd : goal.returns-clause-odd
returns-clause-odd c = odd_witness

pub returns-clause-best : goal.returns-clause-best
returns-clause-best c = best_witness
