use Rattle.fb_laws.proofs.FusedParts.{parts_turned, link_ends_away, tight_fused, tight_fused_right, fused_ends}
use Rattle.fb_laws.proofs.fusion.links_fused.Goals as goal

pub returns-clause-turned : goal.returns-clause-turned
returns-clause-turned c = parts_turned

pub returns-clause-away : goal.returns-clause-away
returns-clause-away c = link_ends_away

pub returns-clause-left : goal.returns-clause-left
returns-clause-left c = tight_fused

pub returns-clause-right : goal.returns-clause-right
returns-clause-right c = tight_fused_right

pub returns-clause-ends : goal.returns-clause-ends
returns-clause-ends c = fused_ends
