use Rattle.fb_laws.proofs.StateOpenings as lemma
use Rattle.fb_tree_laws.proofs.state_openings.state_opened.Goals as goal

pub returns-clause-kept : goal.returns-clause-kept
returns-clause-kept c = lemma.state_opened

pub returns-clause-opens : goal.returns-clause-opens
returns-clause-opens c = lemma.state_opens
