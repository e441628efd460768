use Rattle.std.proofs.Common.{◌∙◌, arith}
use Rattle.std.proofs.lemmas.Result.{on_err_weaker}
use Rattle.fb_predict.proofs.Rests.{taken_more, taken_prefix, taken_last_prefix, taken_as, next_byte, next_place, end_byte}
use Rattle.fb_predict.proofs.coded.put_b8.Goals as goal
use Rattle.fb_predict.proofs.coded.put_b8.Goals.{then-place-eq7+in-Ok, else-place-eq7}

pub returns-in_default-clause-prefix : goal.returns-in_default-clause-prefix
returns-in_default-clause-prefix g c =
    let at = c.loop-bit in
    taken_prefix _ _ _ _ _ _ _ at.invariant.0 (next_byte c.args.bits.now at.bit-index at.byte at.place _ _ c.loop-bit-test.true c.if-place-eq7.true c.with_bit-byte.ensures.value) c.in_default.ensures.prefix

pub loop-bit-preserved : goal.loop-bit-preserved
loop-bit-preserved g c =
    let at = c.loop-bit in
    elim c.if-place-eq7.branch [
      | then-place-eq7+in-Ok w ↦ rw (w.sink-is, w.byte-is, w.place-is) (
        taken_more _ _ _ _ _ _ _ at.invariant.0 (next_byte c.args.bits.now at.bit-index at.byte at.place _ _ c.loop-bit-test.true w.if-place-eq7.true c.with_bit-byte.ensures.value) w.in-Ok.ensures.all,
        w.in-Ok.ensures.cause ∙ at.invariant.1,
        omega arith,
        omega arith,
      )
      | else-place-eq7 w ↦ rw (w.sink-is, w.byte-is, w.place-is) (
        taken_as _ _ _ _ _ at.invariant.0 (next_place c.args.bits.now at.bit-index at.byte at.place _ _ c.loop-bit-test.true w.if-place-eq7.false c.with_bit-byte.ensures.value),
        at.invariant.1,
        omega (arith, at.invariant.2),
        c.with_bit-byte.ensures.below,
      )
    ]

pub returns-clause-prefix : goal.returns-clause-prefix
returns-clause-prefix g c =
    let at = c.loop-bit in
    on_err_weaker c.put_all-2.result (taken_last_prefix _ _ _ _ _ _ at.invariant.0 (end_byte c.args.bits.now at.bit-index at.byte at.place c.loop-bit-test.false c.if-place-eq0.false)) c.put_all-2.ensures.prefix
