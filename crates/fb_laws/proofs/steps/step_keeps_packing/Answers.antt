use Rattle.fb_graph.proofs.StepLoads.{packing_stepped}
use Rattle.fb_laws.proofs.steps.step_keeps_packing.Goals as goal

pub returns : goal.returns
returns c = packing_stepped
