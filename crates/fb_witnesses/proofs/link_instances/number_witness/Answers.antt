use Rattle.fb_witnesses.proofs.SampleNumbers.{moved_witness, ring_numbers_witness, steps_witness}
use Rattle.fb_witnesses.proofs.link_instances.number_witness.Goals as goal

pub returns-clause-steps : goal.returns-clause-steps
returns-clause-steps c = steps_witness

pub returns-clause-moved : goal.returns-clause-moved
returns-clause-moved c = moved_witness

pub returns-clause-ring : goal.returns-clause-ring
returns-clause-ring c = ring_numbers_witness
