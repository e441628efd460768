use Rattle.fb_witnesses.proofs.SampleNests.{nest_witness}
use Rattle.fb_witnesses.proofs.instances.nest_witness.Goals as goal

pub returns : goal.returns
returns c = nest_witness
