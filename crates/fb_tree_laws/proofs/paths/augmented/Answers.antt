use Rattle.fb_laws.proofs.PathSums.{augmented, augmented_releasing}
use Rattle.fb_tree_laws.proofs.paths.augmented.Goals as goal

pub returns-clause-met : goal.returns-clause-met
returns-clause-met c = augmented

pub returns-clause-releasing : goal.returns-clause-releasing
returns-clause-releasing c = augmented_releasing
