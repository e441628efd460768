use Rattle.fb_graph.proofs.ClosedSets.{boundary_height}
use Rattle.fb_laws.proofs.FusedParts.{height_fused}
use Rattle.fb_laws.proofs.fusion.heights_fused.Goals as goal

pub returns-clause-boundary : goal.returns-clause-boundary
returns-clause-boundary c = boundary_height

pub returns-clause-kept : goal.returns-clause-kept
returns-clause-kept c = height_fused
