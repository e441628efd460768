use Rattle.fb_laws.proofs.PartBounds.{few_blossoms, few_leaves}
use Rattle.fb_tree_laws.proofs.ranks.nodes_bounded.Goals as goal

pub returns-clause-leaves : goal.returns-clause-leaves
returns-clause-leaves c = few_leaves

pub returns-clause-blossoms : goal.returns-clause-blossoms
returns-clause-blossoms c = few_blossoms
