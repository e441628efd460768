use Rattle.std.proofs.Common.{◌∙◌}
use Rattle.std.proofs.lemmas.Result.{on_err_weaker}
use Rattle.fb_predict.proofs.Rests.{taken_more, taken_prefix, taken_last_prefix, next_01, end_01}
use Rattle.fb_predict.proofs.coded.put_01.Goals as goal

pub returns-in_default-clause-prefix : goal.returns-in_default-clause-prefix
returns-in_default-clause-prefix g c =
    taken_prefix _ _ _ _ _ _ _ c.loop-bit.invariant.0 (next_01 c.args.bits.now c.loop-bit.bit-index _ _ c.loop-bit-test.true c.digit.ensures) c.in_default.ensures.prefix

pub loop-bit-preserved : goal.loop-bit-preserved
loop-bit-preserved g c = (
  taken_more _ _ _ _ _ _ _ c.loop-bit.invariant.0 (next_01 c.args.bits.now c.loop-bit.bit-index _ _ c.loop-bit-test.true c.digit.ensures) c.in-Ok.ensures.all,
  c.in-Ok.ensures.cause ∙ c.loop-bit.invariant.1,
)

pub returns-clause-prefix : goal.returns-clause-prefix
returns-clause-prefix g c =
    on_err_weaker c.put_all-2.result (taken_last_prefix _ _ _ _ _ _ c.loop-bit.invariant.0 (end_01 c.args.bits.now c.loop-bit.bit-index c.loop-bit-test.false)) c.put_all-2.ensures.prefix
