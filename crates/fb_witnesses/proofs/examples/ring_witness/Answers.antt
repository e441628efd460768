use Rattle.fb_witnesses.proofs.SampleRings.{ring_witness}
use Rattle.fb_witnesses.proofs.examples.ring_witness.Goals as goal

pub returns : goal.returns
returns c = ring_witness
