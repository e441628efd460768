use Rattle.fb_blossoms.proofs.SimplePaths.{simple_path}
use Rattle.fb_blossoms.proofs.OnePath.{one_path}
use Rattle.fb_blossoms.proofs.laws.paths.Goals as goal

pub returns-clause-simple : goal.returns-clause-simple
returns-clause-simple c links nodes name from to path nested linked h = simple_path links nodes nested linked name from to path h

pub returns-clause-unique : goal.returns-clause-unique
returns-clause-unique c links nodes name from to path other nested linked g h = one_path links nodes nested linked name from to path g other h
