use Rattle.std.proofs.Common.{◌≡◌, ℕ, ◌+◌, ◌++◌, List, sym, ap, ◌∙◌, append_assoc, take, arith}
use Rattle.fb_report.proofs.Rows.{rows_text-take}
use Rattle.fb_report.specs.Texts.{row_text, rows_text}
use Rattle.fb_run.proofs.Batched.{counts-take, rows_added-take}
use Rattle.fb_run.proofs.batches.add_rows.Goals as goal

pub rows-requires : goal.rows-requires
rows-requires c = omega (arith, rows_added-take c.args.tally c.loop-row.tally c.args.rows.now c.loop-row.row-index (omega arith) c.loop-row.invariant.counts)

pub overflow_cast-rows : goal.overflow_cast-rows
overflow_cast-rows c = omega (arith, rows_added-take c.args.tally c.loop-row.tally c.args.rows.now c.loop-row.row-index (omega arith) c.loop-row.invariant.counts)

pub loop-row-preserved : goal.loop-row-preserved
loop-row-preserved c =
    let first = c.args.tally.best + c.args.tally.odd in
    let rows = c.args.rows.now in
    let i = c.loop-row.row-index in
    let so_far = rows_text first (take i rows) in
    let place : c.rows.result ≡ first + i = c.rows.ensures ∙ rows_added-take c.args.tally c.loop-row.tally rows i (omega arith) c.loop-row.invariant.counts in record {
      text = c.in-Ok.ensures.all
          ∙ ap (λ (text : List ℕ). text ++ row_text c.rows.result c.row-item.result) c.loop-row.invariant.text
          ∙ append_assoc c.args.outbox.now.text so_far (row_text c.rows.result c.row-item.result)
          ∙ ap (λ (n : ℕ). c.args.outbox.now.text ++ (so_far ++ row_text n c.row-item.result)) place
          ∙ ap (λ r. c.args.outbox.now.text ++ (so_far ++ row_text (first + i) r)) c.row-item.is
          ∙ ap (λ (text : List ℕ). c.args.outbox.now.text ++ text) (sym (rows_text-take first rows i c.row-item.result c.loop-row-test.true));
      counts = rw c.with_row-tally.ensures (counts-take c.args.tally c.loop-row.tally rows i c.row-item.result c.loop-row-test.true c.row-item.is c.loop-row.invariant.counts);
    }
