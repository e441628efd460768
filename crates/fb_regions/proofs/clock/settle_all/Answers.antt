use Rattle.fb_regions.proofs.Settling.{settled_more}
use Rattle.fb_regions.proofs.clock.settle_all.Goals as goal

pub loop-i-preserved : goal.loop-i-preserved
loop-i-preserved c =
    settled_more c.args.clock c.args.regions.now c.loop-i.regions c.loop-i.i _ _ _ c.loop-i-test.true c.loop-i.auto.regions c.loop-i.invariant
    c.settle.ensures
