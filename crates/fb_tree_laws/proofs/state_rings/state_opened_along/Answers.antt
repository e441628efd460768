use Rattle.fb_laws.proofs.StateRings.{child_at_end, cycle_along, state_opened_along}
use Rattle.fb_tree_laws.proofs.state_rings.state_opened_along.Goals as goal

pub returns-clause-child : goal.returns-clause-child
returns-clause-child c = child_at_end

pub returns-clause-cycle : goal.returns-clause-cycle
returns-clause-cycle c = cycle_along

pub returns-clause-state : goal.returns-clause-state
returns-clause-state c = state_opened_along
