use Rattle.fb_witnesses.proofs.SampleFusions.{fused_witness}
use Rattle.fb_witnesses.proofs.SampleSeamStates.{seam_witness}
use Rattle.fb_witnesses.proofs.instances.fused_witness.Goals as goal

pub returns-clause-steps : goal.returns-clause-steps
returns-clause-steps c = fused_witness

pub returns-clause-fused : goal.returns-clause-fused
returns-clause-fused c = seam_witness
