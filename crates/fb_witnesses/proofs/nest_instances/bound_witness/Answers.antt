use Rattle.fb_witnesses.proofs.SampleRanks.{rank_witness}
use Rattle.fb_witnesses.proofs.SampleFours.{bound_witness}
use Rattle.fb_witnesses.proofs.nest_instances.bound_witness.Goals as goal

pub returns-clause-steps : goal.returns-clause-steps
returns-clause-steps c = bound_witness

pub returns-clause-ranks : goal.returns-clause-ranks
returns-clause-ranks c = rank_witness
