use Rattle.fb_witnesses.proofs.SampleNames.{renamed_witness}
use Rattle.fb_witnesses.proofs.nest_instances.renamed_witness.Goals as goal

pub returns : goal.returns
returns c = renamed_witness
