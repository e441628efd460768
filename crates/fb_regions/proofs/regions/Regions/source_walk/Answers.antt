use Rattle.fb_regions.proofs.ChainedWalks.{source_chained}
use Rattle.fb_regions.proofs.regions.Regions.source_walk.Goals as goal

pub from_vec-requires : goal.from_vec-requires
from_vec-requires g c =
    let added = c.in_ok-push_source_walk.ensures in
    rw (added.added, c.new-steps.ensures.items) (source_chained _ _ c.args.v _ added.leads)

pub returns : goal.returns
returns g c =
    let added = c.in_ok-push_source_walk.ensures in
    rw (c.from_vec.ensures, added.added, c.new-steps.ensures.items) added.leads
