use Rattle.std.proofs.Common.{◌∙◌, refl}
use Rattle.std.proofs.lemmas.Result.{on_err_weaker}
use Rattle.fb_shots_stim.specs.CodedShots.{coded_dets}
use Rattle.fb_predict.specs.InternalRests.{rest_dets}
use Rattle.fb_predict.proofs.Rests.{taken_none, taken_more, taken_prefix, taken_last_prefix, taken_as, next_word, next_none, end_dets}
use Rattle.fb_predict.proofs.coded.put_dets.Goals as goal
use Rattle.fb_predict.proofs.coded.put_dets.Goals.{then-bit+in-Ok-put_number, else-bit}

pub returns-in_default-clause-prefix : goal.returns-in_default-clause-prefix
returns-in_default-clause-prefix g c =
    taken_prefix _ _ _ _ _ _ (rest_dets 0 c.args.bits.now) (taken_none _ (coded_dets c.args.bits.now)) refl c.in_default.ensures.prefix

pub returns-in_default-put_number-clause-prefix : goal.returns-in_default-put_number-clause-prefix
returns-in_default-put_number-clause-prefix g c =
    taken_prefix _ _ _ _ _ _ _ c.loop-i.invariant.0 (next_word c.args.bits.now c.loop-i.i _ c.loop-i-test.true c.if-bit.true) c.in_default-put_number.ensures.prefix

pub loop-i-preserved : goal.loop-i-preserved
loop-i-preserved g c =
    let at = c.loop-i in
    elim c.if-bit.branch [
      | then-bit+in-Ok-put_number w ↦ rw w.sink-is (
        taken_more _ _ _ _ _ _ _ at.invariant.0 (next_word c.args.bits.now at.i _ c.loop-i-test.true w.if-bit.true) w.in-Ok-put_number.ensures.all,
        w.in-Ok-put_number.ensures.cause ∙ at.invariant.1,
      )
      | else-bit w ↦ rw w.sink-is (taken_as _ _ _ _ _ at.invariant.0 (next_none c.args.bits.now at.i _ c.loop-i-test.true w.if-bit.false), at.invariant.1)
    ]

pub returns-clause-prefix : goal.returns-clause-prefix
returns-clause-prefix g c =
    on_err_weaker c.put_all-2.result (taken_last_prefix _ _ _ _ _ _ c.loop-i.invariant.0 (end_dets c.args.bits.now c.loop-i.i c.loop-i-test.false)) c.put_all-2.ensures.prefix
