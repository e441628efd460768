use Rattle.fb_witnesses.proofs.SampleStates.{signed_witness}
use Rattle.fb_witnesses.proofs.witnesses.signed_witness.Goals as goal

pub returns : goal.returns
returns c = signed_witness
