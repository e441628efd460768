use Rattle.fb_laws.proofs.StateOpenings as lemma
use Rattle.fb_tree_laws.proofs.state_openings.cycle_freed.Goals as goal

pub returns : goal.returns
returns c = lemma.cycle_freed
