use Rattle.fb_graph.proofs.TightLinks.{parted_from_low, meeting_tight, boundary_tight}
use Rattle.fb_laws.proofs.links.meeting_is_tight.Goals as goal

pub returns-clause-parted : goal.returns-clause-parted
returns-clause-parted c = parted_from_low

pub returns-clause-met : goal.returns-clause-met
returns-clause-met c = meeting_tight

pub returns-clause-boundary : goal.returns-clause-boundary
returns-clause-boundary c = boundary_tight
