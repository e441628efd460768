use Rattle.fb_laws.proofs.StateBlossoms as lemma
use Rattle.fb_tree_laws.proofs.state_blossoms.state_joined.Goals as goal

pub returns-clause-branches : goal.returns-clause-branches
returns-clause-branches c = lemma.state_joined

pub returns-clause-cycle : goal.returns-clause-cycle
returns-clause-cycle c = lemma.state_closed

pub returns-clause-round : goal.returns-clause-round
returns-clause-round c = lemma.state_rounded
