use Rattle.fb_plan.proofs.ShotPlans.{shot_even, shot_plan}
use Rattle.fb_plan.proofs.laws.weights_of_nodes.Goals as goal

pub returns-clause-plan : goal.returns-clause-plan
returns-clause-plan c = shot_plan

pub returns-clause-even : goal.returns-clause-even
returns-clause-even c = shot_even
