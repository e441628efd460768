use Rattle.fb_witnesses.proofs.SampleStates.{path_witness}
use Rattle.fb_witnesses.proofs.witnesses.path_witness.Goals as goal

pub returns : goal.returns
returns c = path_witness
