use Rattle.fb_witnesses.proofs.SampleStates.{blossom_witness}
use Rattle.fb_witnesses.proofs.witnesses.blossom_witness.Goals as goal

pub returns : goal.returns
returns c = blossom_witness
