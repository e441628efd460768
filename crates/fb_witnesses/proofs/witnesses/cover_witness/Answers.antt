use Rattle.fb_witnesses.proofs.SampleStates.{cover_witness}
use Rattle.fb_witnesses.proofs.witnesses.cover_witness.Goals as goal

pub returns : goal.returns
returns c = cover_witness
