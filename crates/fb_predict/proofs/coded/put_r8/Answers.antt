use Rattle.std.proofs.Common.{◌∙◌, arith}
use Rattle.std.proofs.lemmas.Result.{on_err_weaker}
use Rattle.fb_predict.proofs.Rests.{taken_more, taken_prefix, taken_last_prefix, taken_as, next_set, next_unset, end_r8}
use Rattle.fb_predict.proofs.coded.put_r8.Goals as goal
use Rattle.fb_predict.proofs.coded.put_r8.Goals.{then-bit+in-Ok, else-bit}

pub returns-in_default-clause-prefix : goal.returns-in_default-clause-prefix
returns-in_default-clause-prefix g c =
    taken_prefix _ _ _ _ _ _ _ c.loop-bit.invariant.0 (next_set c.args.bits.now c.loop-bit.bit-index c.loop-bit.zeros _ c.loop-bit-test.true c.if-bit.true) c.in_default.ensures.prefix

pub loop-bit-preserved : goal.loop-bit-preserved
loop-bit-preserved g c =
    let at = c.loop-bit in
    elim c.if-bit.branch [
      | then-bit+in-Ok w ↦ rw (w.sink-is, w.zeros-is) (
        taken_more _ _ _ _ _ _ _ at.invariant.0 (next_set c.args.bits.now at.bit-index at.zeros _ c.loop-bit-test.true w.if-bit.true) w.in-Ok.ensures.all,
        w.in-Ok.ensures.cause ∙ at.invariant.1,
        omega arith,
      )
      | else-bit w ↦ rw (w.sink-is, w.zeros-is) (
        taken_as _ _ _ _ _ at.invariant.0 (next_unset c.args.bits.now at.bit-index at.zeros _ c.loop-bit-test.true w.if-bit.false),
        at.invariant.1,
        omega (arith, at.invariant.2),
      )
    ]

pub returns-clause-prefix : goal.returns-clause-prefix
returns-clause-prefix g c =
    on_err_weaker c.put_run-2.result (taken_last_prefix _ _ _ _ _ _ c.loop-bit.invariant.0 (end_r8 c.args.bits.now c.loop-bit.bit-index c.loop-bit.zeros c.loop-bit-test.false)) c.put_run-2.ensures.prefix
