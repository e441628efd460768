use Rattle.fb_plan.proofs.FusionSeams.{fusion_is_parts, seam_is_apart, unit_is_own}
use Rattle.fb_plan.proofs.laws.seam_apart.Goals as goal

pub returns-clause-unit : goal.returns-clause-unit
returns-clause-unit c = unit_is_own

pub returns-clause-fusion : goal.returns-clause-fusion
returns-clause-fusion c = fusion_is_parts

pub returns-clause-seam : goal.returns-clause-seam
returns-clause-seam c = seam_is_apart
