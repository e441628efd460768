use Rattle.fb_witnesses.proofs.SampleKites.{closed_witness, opened_witness}
use Rattle.fb_witnesses.proofs.instances.cycle_witness.Goals as goal

pub returns-clause-closed : goal.returns-clause-closed
returns-clause-closed c = closed_witness

pub returns-clause-opened : goal.returns-clause-opened
returns-clause-opened c = opened_witness
