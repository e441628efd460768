use Rattle.fb_graph.proofs.Crossings.{level_between, level_within, level_outside}
use Rattle.fb_laws.proofs.covers.links_are_level.Goals as goal

pub returns-clause-between : goal.returns-clause-between
returns-clause-between c = level_between

pub returns-clause-within : goal.returns-clause-within
returns-clause-within c = level_within

pub returns-clause-outside : goal.returns-clause-outside
returns-clause-outside c = level_outside
