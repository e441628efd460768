use Rattle.fb_witnesses.proofs.SamplePlans.{plan_witness}
use Rattle.fb_witnesses.proofs.nest_instances.seam_witness.Goals as goal

pub returns : goal.returns
returns c = plan_witness
