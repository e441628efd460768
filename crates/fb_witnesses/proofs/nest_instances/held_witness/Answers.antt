use Rattle.fb_witnesses.proofs.SampleHeld.{held_witness}
use Rattle.fb_witnesses.proofs.nest_instances.held_witness.Goals as goal

pub returns : goal.returns
returns c = held_witness
