use Rattle.fb_laws.proofs.RenamedStates.{live_links_renamed, state_renamed}
use Rattle.fb_laws.proofs.renaming.state_renamed.Goals as goal

pub returns-clause-state : goal.returns-clause-state
returns-clause-state c = state_renamed

pub returns-clause-links : goal.returns-clause-links
returns-clause-links c = live_links_renamed
