use Rattle.fb_laws.proofs.FusedParts.{fused_perfect}
use Rattle.fb_laws.proofs.fusion.parts_matched.Goals as goal

pub returns : goal.returns
returns c = fused_perfect
