use Rattle.fb_laws.proofs.MoveBridges.{blossom_named, joining_allowed, blossom_outer}
use Rattle.fb_tree_laws.proofs.bridges.blossom_named.Goals as goal

pub returns-clause-named : goal.returns-clause-named
returns-clause-named c = blossom_named

pub returns-clause-allowed : goal.returns-clause-allowed
returns-clause-allowed c = joining_allowed

pub returns-clause-outer : goal.returns-clause-outer
returns-clause-outer c = blossom_outer
