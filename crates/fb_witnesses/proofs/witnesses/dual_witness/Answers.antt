use Rattle.fb_witnesses.proofs.SampleStates.{dual_witness}
use Rattle.fb_witnesses.proofs.witnesses.dual_witness.Goals as goal

pub returns : goal.returns
returns c = dual_witness
