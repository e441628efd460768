use Rattle.fb_links.proofs.Numbers.{kept_by_adding}
use Rattle.fb_links.proofs.laws.adding.Goals as goal

pub returns : goal.returns
returns c = kept_by_adding
