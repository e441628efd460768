use Rattle.std.proofs.Common.{◌∙◌, arith}
use Rattle.std.proofs.lemmas.Result.{on_err_weaker}
use Rattle.fb_predict.proofs.Rests.{taken_more, taken_prefix, taken_last_prefix, run_long, run_short}
use Rattle.fb_predict.proofs.coded.put_run.Goals as goal

pub returns-in_default-clause-prefix : goal.returns-in_default-clause-prefix
returns-in_default-clause-prefix g c =
    taken_prefix _ _ _ _ _ _ _ c.loop-left.invariant.0 (run_long c.loop-left.left (omega arith)) c.in_default.ensures.prefix

pub loop-left-preserved : goal.loop-left-preserved
loop-left-preserved g c = (
  taken_more _ _ _ _ _ _ _ c.loop-left.invariant.0 (run_long c.loop-left.left (omega arith)) c.in-Ok.ensures.all,
  c.in-Ok.ensures.cause ∙ c.loop-left.invariant.1,
)

pub returns-clause-prefix : goal.returns-clause-prefix
returns-clause-prefix g c =
    on_err_weaker c.put_all-2.result (taken_last_prefix _ _ _ _ _ _ c.loop-left.invariant.0 (run_short c.loop-left.left (omega arith))) c.put_all-2.ensures.prefix
