use Rattle.fb_links.proofs.Spans.{walk_kept}
use Rattle.fb_links.proofs.links.Links.keeps.Goals as goal

pub returns : goal.returns
returns c = λ id walk is. walk_kept _ _ id walk c.self.invariant.entries (rw (← c.self.view_is) at is)
