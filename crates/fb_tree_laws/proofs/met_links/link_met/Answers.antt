use Rattle.fb_laws.proofs.MetLinks.{link_met, link_to_boundary, source_under}
use Rattle.fb_tree_laws.proofs.met_links.link_met.Goals as goal

pub returns-clause-source : goal.returns-clause-source
returns-clause-source c = source_under

pub returns-clause-nodes : goal.returns-clause-nodes
returns-clause-nodes c = link_met

pub returns-clause-boundary : goal.returns-clause-boundary
returns-clause-boundary c = link_to_boundary
