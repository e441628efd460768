use Rattle.fb_resolve.proofs.NumberedLinks.{opened_by_number}
use Rattle.fb_resolve.proofs.Roots.{root_right}
use Rattle.fb_resolve.proofs.laws.root_is_right.Goals as goal

pub returns : goal.returns
returns c = root_right opened_by_number
