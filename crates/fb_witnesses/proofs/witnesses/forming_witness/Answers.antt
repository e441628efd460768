use Rattle.fb_witnesses.proofs.SampleCycles.{forming_witness}
use Rattle.fb_witnesses.proofs.witnesses.forming_witness.Goals as goal

pub returns : goal.returns
returns c = forming_witness
