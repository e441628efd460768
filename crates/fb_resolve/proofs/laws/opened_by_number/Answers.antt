use Rattle.fb_resolve.proofs.NumberedLinks.{opened_by_number}
use Rattle.fb_resolve.proofs.laws.opened_by_number.Goals as goal

pub returns : goal.returns
returns c = opened_by_number
