use Rattle.fb_witnesses.proofs.SampleMeetings.{met_witness, through_witness}
use Rattle.fb_witnesses.proofs.link_instances.met_witness.Goals as goal

pub returns-clause-met : goal.returns-clause-met
returns-clause-met c = met_witness

pub returns-clause-through : goal.returns-clause-through
returns-clause-through c = through_witness
