use Rattle.std.proofs.Common.{subst, ◌∙◌}
use Rattle.fb_predicting.proofs.RecordsSoFar.{all_of_end, odd_of_report, so_far_after}
use Rattle.fb_predicting.proofs.records.Records.of_report.Goals as goal
use Rattle.fb_verify.specs.ReportLines.{Gives}
use Rattle.fb_verify.specs.declared.report_lines.NextLine.{NextLine}

pub loop-said-preserved : goal.loop-said-preserved
loop-said-preserved c =
    let at = c.loop-said.invariant in
    let taken = subst (λ (l : NextLine). Gives c.loop-said.lines l) c.in-Ok-Line.field-0-is c.in-Ok-Line.ensures.ok at.0 at.1 in (
      taken.next,
      taken.at,
      at.2 ∙ taken.same,
      so_far_after c.args.to c.args.observables.now c.loop-said.lines.number at.0 taken.next c.in-Ok-Line.said _ _ taken.taken at.3
          c.in_ok-put_record-in-Ok-Line.ensures.ok,
    )

pub returns-in-Ok-Done-clause-ok : goal.returns-in-Ok-Done-clause-ok
returns-in-Ok-Done-clause-ok c =
    let at = c.loop-said.invariant in
    let ended = subst (λ (l : NextLine). Gives c.loop-said.lines l) c.in-Ok-Done.field-0-is c.in-Ok-Done.ensures.ok at.0 at.1 in (
      record { rows = at.0.rows; totals = c.in-Ok-Done.totals },
      at.2 ∙ ended.1,
      record {
        text = all_of_end c.args.to c.args.observables.now at.0 c.in-Ok-Done.totals _ ended.0 at.3;
        odd = odd_of_report c.args.text.now _ (at.2 ∙ ended.1);
      },
    )
