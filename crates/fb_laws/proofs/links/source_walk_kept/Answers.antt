use Rattle.fb_graph.proofs.TightLinks.{source_stepped}
use Rattle.fb_laws.proofs.links.source_walk_kept.Goals as goal

pub returns : goal.returns
returns c = source_stepped
