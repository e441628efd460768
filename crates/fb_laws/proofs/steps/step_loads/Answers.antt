use Rattle.fb_graph.proofs.StepLoads.{load_stepped, tight_stepped}
use Rattle.fb_laws.proofs.steps.step_loads.Goals as goal

pub returns-clause-load : goal.returns-clause-load
returns-clause-load c = load_stepped

pub returns-clause-tight : goal.returns-clause-tight
returns-clause-tight c = tight_stepped
