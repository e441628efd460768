use Rattle.fb_laws.proofs.MetLinks.{link_turned, links_joined}
use Rattle.fb_tree_laws.proofs.met_links.links_joined.Goals as goal

pub returns-clause-turned : goal.returns-clause-turned
returns-clause-turned c = link_turned

pub returns-clause-joined : goal.returns-clause-joined
returns-clause-joined c = links_joined
