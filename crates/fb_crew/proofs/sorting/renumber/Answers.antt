use Rattle.std.proofs.Common.{arith}
use Rattle.fb_crew.proofs.EvenPlaces.{renumbered_next}
use Rattle.fb_crew.proofs.sorting.renumber.Goals as goal

pub loop-i-preserved : goal.loop-i-preserved
loop-i-preserved c = renumbered_next c.args.places.now c.args.history.now.items c.loop-i.history.items c.loop-i.i c.index.result.now c.index_mut.result.now
    (omega (arith, c.loop-i-test.true, c.len-i-end.ensures)) c.loop-i.invariant c.index.ensures c.index_mut.ensures.value
