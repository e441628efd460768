use Rattle.std.proofs.Common.{refl}
use Rattle.fb_half.proofs.both.both.Goals as goal

pub returns : goal.returns
returns g c = (search, refl)
