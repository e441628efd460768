use Rattle.fb_shots_stim.proofs.ReadBack as lemmas
use Rattle.fb_shots_stim.proofs.laws.reads_back_b8.Goals as goal

pub returns : goal.returns
returns c = lemmas.reads_back_b8
