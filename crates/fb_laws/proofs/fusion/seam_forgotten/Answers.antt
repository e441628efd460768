use Rattle.fb_laws.proofs.FusedParts.{forgotten, seam_parity}
use Rattle.fb_laws.proofs.fusion.seam_forgotten.Goals as goal

pub returns-clause-ends : goal.returns-clause-ends
returns-clause-ends c = forgotten

pub returns-clause-parity : goal.returns-clause-parity
returns-clause-parity c = seam_parity
