use Rattle.fb_witnesses.proofs.SampleLineEnds.{fused_state_witness}
use Rattle.fb_witnesses.proofs.SamplePentagons.{closed_witness, opened_witness}
use Rattle.fb_witnesses.proofs.state_instances.state_witness.Goals as goal

pub returns-clause-closed : goal.returns-clause-closed
returns-clause-closed c = closed_witness

pub returns-clause-fused : goal.returns-clause-fused
returns-clause-fused c = fused_state_witness

pub returns-clause-opened : goal.returns-clause-opened
returns-clause-opened c = opened_witness
