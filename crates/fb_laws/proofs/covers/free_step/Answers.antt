use Rattle.fb_graph.proofs.Crossings.{free_step}
use Rattle.fb_laws.proofs.covers.free_step.Goals as goal

pub returns : goal.returns
returns c = free_step
