use Rattle.fb_plan.proofs.SubProblems.{all_below_root, count_of_nodes, one_parent}
use Rattle.fb_plan.proofs.laws.one_root.Goals as goal

pub returns-clause-count : goal.returns-clause-count
returns-clause-count c = count_of_nodes

pub returns-clause-parent : goal.returns-clause-parent
returns-clause-parent c = one_parent

pub returns-clause-below : goal.returns-clause-below
returns-clause-below c = all_below_root
