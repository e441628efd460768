use Rattle.fb_shots_stim.proofs.ReadBackHits as lemmas
use Rattle.fb_shots_stim.proofs.laws.reads_back_hits.Goals as goal

pub returns : goal.returns
returns c = lemmas.reads_back_hits
