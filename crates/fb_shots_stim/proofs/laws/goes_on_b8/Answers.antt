use Rattle.fb_shots_stim.proofs.LemmasB8 as lemmas
use Rattle.fb_shots_stim.proofs.FirstRecords.{leaves_b8}
use Rattle.fb_shots_stim.proofs.laws.goes_on_b8.Goals as goal

pub returns-clause-whole : goal.returns-clause-whole
returns-clause-whole c = lemmas.goes_on_b8

pub returns-clause-first : goal.returns-clause-first
returns-clause-first c = leaves_b8
