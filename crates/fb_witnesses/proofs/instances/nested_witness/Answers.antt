use Rattle.fb_witnesses.proofs.SampleEndings.{ending_witness, nested_witness}
use Rattle.fb_witnesses.proofs.SampleResolutions.{resolved_witness}
use Rattle.fb_witnesses.proofs.instances.nested_witness.Goals as goal

pub returns-clause-state : goal.returns-clause-state
returns-clause-state c = nested_witness

pub returns-clause-ending : goal.returns-clause-ending
returns-clause-ending c = ending_witness

pub returns-clause-resolved : goal.returns-clause-resolved
returns-clause-resolved c = resolved_witness
