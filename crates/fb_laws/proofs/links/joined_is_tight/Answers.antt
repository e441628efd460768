use Rattle.fb_graph.proofs.TightLinks.{turned_tight, joined_tight}
use Rattle.fb_laws.proofs.links.joined_is_tight.Goals as goal

pub returns-clause-turned : goal.returns-clause-turned
returns-clause-turned c = turned_tight

pub returns-clause-joined : goal.returns-clause-joined
returns-clause-joined c = joined_tight
