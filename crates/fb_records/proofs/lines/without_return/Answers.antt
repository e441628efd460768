use Rattle.std.proofs.Common.{sym, ◌∙◌, arith}
use Rattle.std.proofs.lemmas.Bool.{eqb-false}
use Rattle.fb_records.proofs.LineLemmas.{return_dropped, return_kept}
use Rattle.fb_records.proofs.lines.without_return.Goals as goal

pub returns-then-line-end-eq13 : goal.returns-then-line-end-eq13
returns-then-line-end-eq13 c =
    let some = eqb-false _ _ (sym c.is_empty.ensures ∙ c.if-is_empty.false) in
    return_dropped c.args.line.now (omega arith) c.if-line-end-eq13.true

pub returns-else-line-end-eq13 : goal.returns-else-line-end-eq13
returns-else-line-end-eq13 c = return_kept c.args.line.now (λ some. c.if-line-end-eq13.false)
