use Rattle.std.proofs.Common.{◌∙◌}
use Rattle.fb_report.specs.Texts.{trace_line}
use Rattle.fb_report.proofs.writers.write_trace.Goals as goal

pub returns-clause-all : goal.returns-clause-all
unfolding trace_line
returns-clause-all g c =
    let worker = c.as_bytes-worker.ensures.value ∙ c.format.ensures.text in
    let shot = c.as_bytes-shot.ensures.value ∙ c.format-2.ensures.text in
    let node = c.as_bytes-node.ensures.value ∙ c.format-3.ensures.text in
    rw (c.event_word.ensures, worker, shot, node) at c.put_parts.ensures.all

pub returns-clause-prefix : goal.returns-clause-prefix
unfolding trace_line
returns-clause-prefix g c =
    let worker = c.as_bytes-worker.ensures.value ∙ c.format.ensures.text in
    let shot = c.as_bytes-shot.ensures.value ∙ c.format-2.ensures.text in
    let node = c.as_bytes-node.ensures.value ∙ c.format-3.ensures.text in
    rw (c.event_word.ensures, worker, shot, node) at c.put_parts.ensures.prefix
