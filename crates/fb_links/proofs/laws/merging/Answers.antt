use Rattle.fb_links.proofs.Renaming.{either_one, left_stays, right_apart, right_renamed}
use Rattle.fb_links.proofs.laws.merging.Goals as goal

pub returns-clause-stay : goal.returns-clause-stay
returns-clause-stay c = left_stays

pub returns-clause-renamed : goal.returns-clause-renamed
returns-clause-renamed c = right_renamed

pub returns-clause-apart : goal.returns-clause-apart
returns-clause-apart c = right_apart

pub returns-clause-either : goal.returns-clause-either
returns-clause-either c = either_one
