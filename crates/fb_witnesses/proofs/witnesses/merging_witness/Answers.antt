use Rattle.fb_witnesses.proofs.SampleSeams.{merging_witness}
use Rattle.fb_witnesses.proofs.witnesses.merging_witness.Goals as goal

pub returns : goal.returns
returns c = merging_witness
