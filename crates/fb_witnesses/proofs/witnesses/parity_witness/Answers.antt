use Rattle.fb_witnesses.proofs.SampleParts.{parity_witness}
use Rattle.fb_witnesses.proofs.witnesses.parity_witness.Goals as goal

pub returns : goal.returns
returns c = parity_witness
