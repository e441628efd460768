use Rattle.fb_plan.proofs.SubProblems.{child_is_part, node_has_no_odd_closed, node_is_part, root_is_whole}
use Rattle.fb_plan.proofs.laws.sub_problems.Goals as goal

pub returns-clause-part : goal.returns-clause-part
returns-clause-part c = node_is_part

pub returns-clause-child : goal.returns-clause-child
returns-clause-child c = child_is_part

pub returns-clause-root : goal.returns-clause-root
returns-clause-root c = root_is_whole

pub returns-clause-even : goal.returns-clause-even
returns-clause-even c = node_has_no_odd_closed
