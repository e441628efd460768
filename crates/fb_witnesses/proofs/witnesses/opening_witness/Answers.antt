use Rattle.fb_witnesses.proofs.SampleLevels.{opening_witness}
use Rattle.fb_witnesses.proofs.witnesses.opening_witness.Goals as goal

pub returns : goal.returns
returns c = opening_witness
