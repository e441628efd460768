use Rattle.fb_shots.proofs.GoingOn.{goes_on_anywhere}
use Rattle.fb_shots.proofs.laws.goes_on.Goals as goal

pub returns : goal.returns
returns c = goes_on_anywhere
