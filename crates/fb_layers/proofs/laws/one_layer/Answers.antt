use Rattle.fb_layers.proofs.Uniqueness.{one_layer}
use Rattle.fb_layers.proofs.laws.one_layer.Goals as goal

pub returns : goal.returns
returns c = one_layer
