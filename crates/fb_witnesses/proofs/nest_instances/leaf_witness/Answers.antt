use Rattle.fb_witnesses.proofs.SampleLeaves.{exchanged_witness, leaf_witness}
use Rattle.fb_witnesses.proofs.nest_instances.leaf_witness.Goals as goal

pub returns-clause-added : goal.returns-clause-added
returns-clause-added c = leaf_witness

pub returns-clause-exchanged : goal.returns-clause-exchanged
returns-clause-exchanged c = exchanged_witness
