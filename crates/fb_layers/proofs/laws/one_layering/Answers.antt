use Rattle.fb_layers.proofs.Uniqueness.{one_layering}
use Rattle.fb_layers.proofs.laws.one_layering.Goals as goal

pub returns : goal.returns
returns c = one_layering
