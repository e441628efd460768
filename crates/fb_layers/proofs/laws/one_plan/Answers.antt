use Rattle.fb_layers.proofs.Uniqueness.{one_plan}
use Rattle.fb_layers.proofs.laws.one_plan.Goals as goal

pub returns : goal.returns
returns c = one_plan
