use Rattle.fb_layers.proofs.Uniqueness.{near_layers}
use Rattle.fb_layers.proofs.laws.near_layers.Goals as goal

pub returns : goal.returns
returns c = near_layers
