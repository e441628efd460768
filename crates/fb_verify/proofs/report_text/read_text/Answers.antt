use Rattle.std.proofs.Common.{subst, ◌∙◌}
use Rattle.fb_verify.specs.ReportLines.{Gives}
use Rattle.fb_verify.specs.declared.report_lines.NextLine.{NextLine}
use Rattle.fb_verify.proofs.Gathers.{next_holds}
use Rattle.fb_verify.proofs.report_text.read_text.Goals as goal

pub loop-said-preserved : goal.loop-said-preserved
loop-said-preserved c =
    let at = c.loop-said.invariant in
    let taken = subst (λ (l : NextLine). Gives c.loop-said.lines l) c.in-Ok-Line.field-0-is c.in-Ok-Line.ensures.ok at.0 at.1 in (
      taken.next,
      taken.at,
      at.2 ∙ taken.same,
      next_holds c.loop-said.lines.number at.0 taken.next c.in-Ok-Line.said c.loop-said.gathered c.in_ok-gathered-in-Ok-Line.gathered taken.taken at.3
          c.in_ok-gathered-in-Ok-Line.ensures.ok,
    )
