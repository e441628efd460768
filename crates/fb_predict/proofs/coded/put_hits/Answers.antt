use Rattle.std.proofs.Common.{◌∙◌}
use Rattle.std.proofs.lemmas.Result.{on_err_weaker}
use Rattle.fb_predict.proofs.Rests.{taken_more, taken_prefix, taken_last_prefix, taken_as, next_hit, no_hit, end_hits}
use Rattle.fb_predict.proofs.coded.put_hits.Goals as goal
use Rattle.fb_predict.proofs.coded.put_hits.Goals.{then-bit+in-Ok, else-bit}

pub returns-in_default-clause-prefix : goal.returns-in_default-clause-prefix
returns-in_default-clause-prefix g c =
    let at = c.loop-i in
    taken_prefix _ _ _ _ _ _ _ at.invariant.0 (next_hit c.args.bits.now at.i _ at.any _ c.loop-i-test.true c.if-bit.true c.comma.ensures) c.in_default.ensures.prefix

pub loop-i-preserved : goal.loop-i-preserved
loop-i-preserved g c =
    let at = c.loop-i in
    elim c.if-bit.branch [
      | then-bit+in-Ok w ↦ rw (w.sink-is, w.any-is) (
        taken_more _ _ _ _ _ _ _ at.invariant.0 (next_hit c.args.bits.now at.i _ at.any _ c.loop-i-test.true w.if-bit.true w.comma.ensures) w.in-Ok.ensures.all,
        w.in-Ok.ensures.cause ∙ at.invariant.1,
      )
      | else-bit w ↦ rw (w.sink-is, w.any-is) (taken_as _ _ _ _ _ at.invariant.0 (no_hit c.args.bits.now at.i _ at.any c.loop-i-test.true w.if-bit.false), at.invariant.1)
    ]

pub returns-clause-prefix : goal.returns-clause-prefix
returns-clause-prefix g c =
    let at = c.loop-i in
    on_err_weaker c.put_all.result (taken_last_prefix _ _ _ _ _ _ at.invariant.0 (end_hits c.args.bits.now at.i at.any c.loop-i-test.false)) c.put_all.ensures.prefix
