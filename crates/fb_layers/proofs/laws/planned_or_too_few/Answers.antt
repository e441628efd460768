use Rattle.fb_layers.proofs.Uniqueness.{planned_or_too_few}
use Rattle.fb_layers.proofs.laws.planned_or_too_few.Goals as goal

pub returns : goal.returns
returns c = planned_or_too_few
