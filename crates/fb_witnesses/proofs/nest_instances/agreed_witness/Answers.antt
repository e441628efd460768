use Rattle.fb_witnesses.proofs.SampleAgreed.{agreed_witness}
use Rattle.fb_witnesses.proofs.nest_instances.agreed_witness.Goals as goal

pub returns : goal.returns
returns c = agreed_witness
