use Rattle.fb_links.proofs.Spans.{live_link}
use Rattle.fb_links.proofs.links.Links.walk.Goals as goal

pub from_vec-requires : goal.from_vec-requires
from_vec-requires c =
    rw (c.in_ok-steps.ensures, c.steps.ensures) (live_link _ _ c.keeps.ensures c.requires).chained
