use Rattle.std.proofs.Common.{refl}
use Rattle.fb_obstacles.proofs.ends.HolderPair.are_under_one.Goals as goal

pub returns-in-Some-Some : goal.returns-in-Some-Some
returns-in-Some-Some c = rw (c.in-Some-Some.is-0, c.in-Some-Some.is-1) refl
