use Rattle.fb_graph.proofs.TightLinks.{link_parity, boundary_parity, meeting_parity, source_parity}
use Rattle.fb_laws.proofs.links.potential_parity.Goals as goal

pub returns-clause-link : goal.returns-clause-link
returns-clause-link c = link_parity

pub returns-clause-boundary : goal.returns-clause-boundary
returns-clause-boundary c = boundary_parity

pub returns-clause-meeting : goal.returns-clause-meeting
returns-clause-meeting c = meeting_parity

pub returns-clause-source : goal.returns-clause-source
returns-clause-source c = source_parity
