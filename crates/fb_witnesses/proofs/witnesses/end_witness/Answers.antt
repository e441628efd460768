use Rattle.fb_witnesses.proofs.SampleEnds.{end_witness}
use Rattle.fb_witnesses.proofs.witnesses.end_witness.Goals as goal

pub returns : goal.returns
returns c = end_witness
