use Rattle.fb_laws.proofs.StateFusions as lemma
use Rattle.fb_laws.proofs.state_fusions.state_fused.Goals as goal

pub returns-clause-fused : goal.returns-clause-fused
returns-clause-fused c = lemma.state_fused

pub returns-clause-merged : goal.returns-clause-merged
returns-clause-merged c = lemma.state_merged

pub returns-clause-seamed : goal.returns-clause-seamed
returns-clause-seamed c = lemma.state_seamed
