use Rattle.fb_plan.proofs.SubProblems.{ancestors, nesting}
use Rattle.fb_plan.proofs.laws.subtrees.Goals as goal

pub returns-clause-nested : goal.returns-clause-nested
returns-clause-nested c = nesting

pub returns-clause-related : goal.returns-clause-related
returns-clause-related c = ancestors
