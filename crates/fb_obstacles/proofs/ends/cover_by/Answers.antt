use Rattle.std.proofs.Common.{refl}
use Rattle.fb_obstacles.proofs.ends.cover_by.Goals as goal

pub returns-in-None-2 : goal.returns-in-None-2
returns-in-None-2 g c = rw (c.in-None-2.is, ← c.is_real.ensures, c.if-is_real.false) refl
