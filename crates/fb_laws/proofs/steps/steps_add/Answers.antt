use Rattle.fb_graph.proofs.StepLoads.{steps_add, steps_split, stepped_twice}
use Rattle.fb_laws.proofs.steps.steps_add.Goals as goal

pub returns-clause-add : goal.returns-clause-add
returns-clause-add c = steps_add

pub returns-clause-split : goal.returns-clause-split
returns-clause-split c = steps_split

pub returns-clause-twice : goal.returns-clause-twice
returns-clause-twice c = stepped_twice
