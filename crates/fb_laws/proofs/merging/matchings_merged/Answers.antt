use Rattle.fb_laws.proofs.MergedParts.{matchings_merged}
use Rattle.fb_laws.proofs.merging.matchings_merged.Goals as goal

pub returns : goal.returns
returns c = matchings_merged
