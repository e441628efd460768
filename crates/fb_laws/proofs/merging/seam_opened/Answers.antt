use Rattle.fb_laws.proofs.SeamStates.{seam_opened}
use Rattle.fb_laws.proofs.merging.seam_opened.Goals as goal

pub returns : goal.returns
returns c = seam_opened
