use Rattle.fb_laws.proofs.BlossomSums.{formed_ends, base_alone}
use Rattle.fb_tree_laws.proofs.blossoms.blossom_formed.Goals as goal

pub returns-clause-ends : goal.returns-clause-ends
returns-clause-ends c = formed_ends

pub returns-clause-base : goal.returns-clause-base
returns-clause-base c = base_alone
