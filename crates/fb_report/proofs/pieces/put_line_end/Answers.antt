use Rattle.std.proofs.Common.{◌∙◌}
use Rattle.std.proofs.lemmas.Result.{on_ok_weaker, on_err_weaker}
use Rattle.fb_report.proofs.Lines.{numbers_onward, numbers_prefix, numbers_whole, newline_prefix}
use Rattle.fb_report.proofs.pieces.put_line_end.Goals as goal

pub returns-in_default-clause-prefix : goal.returns-in_default-clause-prefix
returns-in_default-clause-prefix g c = numbers_prefix _ _ _ _ _ _ _ c.loop-number-test.true c.from.ensures
    c.loop-number.invariant.0 c.in_default.ensures.prefix

pub loop-number-preserved : goal.loop-number-preserved
loop-number-preserved g c = (
  numbers_onward _ _ _ _ _ _ _ c.loop-number-test.true c.from.ensures c.loop-number.invariant.0 c.in-Ok.ensures.all,
  c.in-Ok.ensures.cause ∙ c.loop-number.invariant.1,
)

pub returns-clause-all : goal.returns-clause-all
returns-clause-all g c = on_ok_weaker c.put_all.result
    (numbers_whole _ _ _ _ _ c.loop-number-test.false c.loop-number.invariant.0) c.put_all.ensures.all

pub returns-clause-prefix : goal.returns-clause-prefix
returns-clause-prefix g c = on_err_weaker c.put_all.result
    (newline_prefix _ _ _ _ _ c.loop-number-test.false c.loop-number.invariant.0) c.put_all.ensures.prefix
