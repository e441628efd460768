use Rattle.fb_witnesses.proofs.SampleParts.{work_witness}
use Rattle.fb_witnesses.proofs.witnesses.work_witness.Goals as goal

pub returns : goal.returns
returns c = work_witness
