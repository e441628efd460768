use Rattle.std.proofs.Common.{◌≡◌, ◌+◌, Err, sym, subst, ◌∙◌}
use Rattle.fb_verify.specs.Places.{Reading}
use Rattle.fb_verify.specs.Positions.{Position, IsAt, report_from}
use Rattle.fb_verify.specs.ReportLines.{TakesLine}
use Rattle.fb_verify.specs.declared.report_faults.ReportFault.TheVariants.{BadLine}
use Rattle.fb_verify.proofs.Walks.{line_taken, line_fails, says_nothing}
use Rattle.fb_verify.proofs.report_lines.ReportLines.next.Goals as goal

pub returns-in_default-said-clause-err : goal.returns-in_default-said-clause-err
returns-in_default-said-clause-err c = λ some r at.
    let here = c.self.inside in
    subst (λ (p : Position). report_from p r ≡ Err (BadLine here.number)) c.self.view_is
    (says_nothing here.number here.rest.now here.walk c.in-Some.text.now c.in-Some.more.now c.in-Some.ensures.split
    (sym c.in_default-said.is ∙ c.in-Ok-read_line.ensures) r)

pub returns-in-Ok-take-clause-ok : goal.returns-in-Ok-take-clause-ok
returns-in-Ok-take-clause-ok c =
    let here = c.self.inside in
    subst (λ (p : Position). (r : Reading) → IsAt p r → TakesLine p c.in-Some-said.said
    (record { number = here.number + 1; rest = c.in-Some.more.now; walk = c.in-Ok-take.walk }) r) c.self.view_is
    (line_taken here.number here.rest.now here.walk c.in-Some.text.now c.in-Some.more.now c.in-Some.ensures.split
    c.in-Some-said.said c.in-Ok-take.walk (sym c.in-Some-said.is ∙ c.in-Ok-read_line.ensures) c.in-Ok-take.ensures.value)

pub returns-clause-err : goal.returns-clause-err
returns-clause-err c = λ some.
    let here = c.self.inside in
    subst (λ (p : Position). (r : Reading) → IsAt p r → report_from p r ≡ Err c.in-Err-take.fault) c.self.view_is
    (line_fails here.number here.rest.now here.walk c.in-Some.text.now c.in-Some.more.now c.in-Some.ensures.split
    c.in-Some-said.said c.in-Err-take.fault (sym c.in-Some-said.is ∙ c.in-Ok-read_line.ensures) c.in-Err-take.ensures.value)
