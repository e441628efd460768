use Rattle.fb_shots_stim.proofs.FirstRuns as lemmas
use Rattle.fb_shots_stim.proofs.laws.goes_on_r8.Goals as goal

pub returns-clause-whole : goal.returns-clause-whole
returns-clause-whole c = lemmas.goes_on_r8

pub returns-clause-first : goal.returns-clause-first
returns-clause-first c = lemmas.leaves_r8
