use Rattle.fb_graph.proofs.Crossings.{crossings_by_cover, no_crossings_within}
use Rattle.fb_laws.proofs.covers.crossings_by_cover.Goals as goal

pub returns-clause-apart : goal.returns-clause-apart
returns-clause-apart c = crossings_by_cover

pub returns-clause-within : goal.returns-clause-within
returns-clause-within c = no_crossings_within
