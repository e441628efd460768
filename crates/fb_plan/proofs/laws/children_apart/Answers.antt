use Rattle.fb_plan.proofs.SubProblems.{children_are_separated}
use Rattle.fb_plan.proofs.laws.children_apart.Goals as goal

pub returns : goal.returns
returns c = children_are_separated
