use Rattle.fb_laws.proofs.NestedStates.{nested_ended, nested_met, nested_released}
use Rattle.fb_tree_laws.proofs.nested.nested_ended.Goals as goal

pub returns-clause-boundary : goal.returns-clause-boundary
returns-clause-boundary c = nested_ended

pub returns-clause-met : goal.returns-clause-met
returns-clause-met c = nested_met

pub returns-clause-released : goal.returns-clause-released
returns-clause-released c = nested_released
