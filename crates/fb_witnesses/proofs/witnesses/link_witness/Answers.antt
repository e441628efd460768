use Rattle.fb_witnesses.proofs.SampleStates.{link_witness}
use Rattle.fb_witnesses.proofs.witnesses.link_witness.Goals as goal

pub returns : goal.returns
returns c = link_witness
