use Rattle.fb_laws.proofs.FusedStates.{nested_fused, unmatched_counted}
use Rattle.fb_laws.proofs.NestedFusions.{nested_merged, nested_seam}
use Rattle.fb_laws.proofs.nested_fusion.nested_fused.Goals as goal

pub returns-clause-merged : goal.returns-clause-merged
returns-clause-merged c = nested_merged

pub returns-clause-seam : goal.returns-clause-seam
returns-clause-seam c = nested_seam

pub returns-clause-fused : goal.returns-clause-fused
returns-clause-fused c = nested_fused

pub returns-clause-count : goal.returns-clause-count
returns-clause-count c = unmatched_counted
