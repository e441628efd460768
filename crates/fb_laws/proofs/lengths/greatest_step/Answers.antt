use Rattle.fb_laws.proofs.StepLengths.{no_length, greatest_step, greatest_bounds, after_greatest}
use Rattle.fb_laws.proofs.lengths.greatest_step.Goals as goal

pub returns-clause-none : goal.returns-clause-none
returns-clause-none c = no_length

pub returns-clause-greatest : goal.returns-clause-greatest
returns-clause-greatest c = greatest_step

pub returns-clause-bounds : goal.returns-clause-bounds
returns-clause-bounds c = greatest_bounds

pub returns-clause-after : goal.returns-clause-after
returns-clause-after c = after_greatest
