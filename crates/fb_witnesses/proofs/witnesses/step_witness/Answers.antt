use Rattle.fb_witnesses.proofs.SampleStates.{step_witness}
use Rattle.fb_witnesses.proofs.witnesses.step_witness.Goals as goal

pub returns : goal.returns
returns c = step_witness
