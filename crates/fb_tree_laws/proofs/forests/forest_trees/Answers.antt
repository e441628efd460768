use Rattle.fb_laws.proofs.ForestStates.{forest_tree}
use Rattle.fb_laws.proofs.ForestSteps.{forest_level, forest_roles_are}
use Rattle.fb_tree_laws.proofs.forests.forest_trees.Goals as goal

pub returns-clause-tree : goal.returns-clause-tree
returns-clause-tree c = forest_tree

pub returns-clause-roles : goal.returns-clause-roles
returns-clause-roles c = forest_roles_are

pub returns-clause-level : goal.returns-clause-level
returns-clause-level c = forest_level
