use Rattle.std.proofs.Common.{refl}
use Rattle.fb_shots_json.proofs.judging.is_too_long.Goals as goal

pub returns : goal.returns
returns c = refl
