use Rattle.std.proofs.Common.{◌≡◌, ◌+◌, ◌++◌, take}
use Rattle.fb_report.specs.Texts.{rows_text}
use Rattle.fb_run.specs.InternalBatches.{AddsCounts}
use Rattle.fb_run.proofs.batches.add_rows.Given as goal

abbrev pub invariant-loop-row : goal.invariant-loop-row
invariant-loop-row l = record {
  text : l.outbox.text ≡ l.initial.outbox.text ++ rows_text (l.initial.tally.best + l.initial.tally.odd) (take l.row-index l.rows);
  counts : AddsCounts l.initial.tally l.tally (take l.row-index l.rows);
}
