use Rattle.fb_laws.proofs.PartStates.{live_tight, search_tight}
use Rattle.fb_laws.proofs.part_states.live_links_are_tight.Goals as goal

pub returns-clause-between : goal.returns-clause-between
returns-clause-between c = live_tight

pub returns-clause-growing : goal.returns-clause-growing
returns-clause-growing c = search_tight
