use Rattle.fb_witnesses.proofs.SampleLevels.{fusion_witness}
use Rattle.fb_witnesses.proofs.witnesses.fusion_witness.Goals as goal

pub returns : goal.returns
returns c = fusion_witness
