use Rattle.fb_laws.proofs.PathSums.{paths_joined, path_ends}
use Rattle.fb_tree_laws.proofs.paths.alternating_path.Goals as goal

pub returns-clause-joined : goal.returns-clause-joined
returns-clause-joined c = paths_joined

pub returns-clause-ends : goal.returns-clause-ends
returns-clause-ends c = path_ends
