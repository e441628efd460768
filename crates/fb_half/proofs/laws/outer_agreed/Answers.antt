use Rattle.fb_half.proofs.AgreedNodes.{outer_in_nodes, outer_in_store}
use Rattle.fb_half.proofs.laws.outer_agreed.Goals as goal

pub returns-clause-store : goal.returns-clause-store
returns-clause-store c = outer_in_store

pub returns-clause-nodes : goal.returns-clause-nodes
returns-clause-nodes c = outer_in_nodes
