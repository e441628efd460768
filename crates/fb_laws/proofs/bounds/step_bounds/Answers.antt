use Rattle.fb_laws.proofs.StepBounds.{bounded_steps, steps_bounded, no_obstacle_before}
use Rattle.fb_laws.proofs.bounds.step_bounds.Goals as goal

pub returns-clause-allowed : goal.returns-clause-allowed
returns-clause-allowed c = bounded_steps

pub returns-clause-bounded : goal.returns-clause-bounded
returns-clause-bounded c = steps_bounded

pub returns-clause-clear : goal.returns-clause-clear
returns-clause-clear c = no_obstacle_before
