use Rattle.std.proofs.Common.{sym}
use Rattle.fb_gen.proofs.Pairings.{first_level_more}
use Rattle.fb_gen.proofs.levels.units_in_order.Goals as goal

pub loop-j-preserved : goal.loop-j-preserved
loop-j-preserved c = rw (c.in_ok-push.ensures.items, c.loop-j.invariant) (sym (first_level_more c.loop-j.j))
