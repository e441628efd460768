use Rattle.std.proofs.Common.{sym, subst, arith}
use Rattle.std.proofs.lemmas.Int.{ints}
use Rattle.fb_run.specs.InternalSums.{HasLowWeight}
use Rattle.fb_run.proofs.LowWeights.{weights_in-more}
use Rattle.fb_run.proofs.sampling.add_weights.Goals as goal

pub loop-row-preserved : goal.loop-row-preserved
loop-row-preserved c =
    let i = c.loop-row.row-index in
    let row = c.row-item.result in
    let low : HasLowWeight row = subst HasLowWeight (sym c.row-item.is) (c.requires.low i row c.loop-row-test.true) in
    let more = weights_in-more c.args.rows.now i row c.loop-row-test.true c.row-item.is in
    let before = c.loop-row.invariant in (
      omega (arith, ints, more, before.0, c.weight_of-sum.ensures, low.above, low.below, before.1.above, before.1.below, c.loop-row-test.true, c.requires.few),
      record {
        above = omega (arith, ints, c.weight_of-sum.ensures, low.above, low.below, before.1.above, before.1.below, c.loop-row-test.true, c.requires.few);
        below = omega (arith, ints, c.weight_of-sum.ensures, low.above, low.below, before.1.above, before.1.below, c.loop-row-test.true, c.requires.few);
      },
    )
