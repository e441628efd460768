use Rattle.std.proofs.Common.{◌∙◌}
use Rattle.fb_report.specs.Texts.{done_text}
use Rattle.fb_report.proofs.writers.write_done.Goals as goal

pub returns-clause-all : goal.returns-clause-all
unfolding done_text
returns-clause-all g c =
    let rows = c.as_bytes-rows.ensures.value ∙ c.format.ensures.text in
    let odd = c.as_bytes-odd.ensures.value ∙ c.format-2.ensures.text in
    let units = c.as_bytes-units.ensures.value ∙ c.format-3.ensures.text in
    let fusions = c.as_bytes-fusions.ensures.value ∙ c.format-4.ensures.text in
    rw (rows, odd, units, fusions) at c.put_parts.ensures.all

pub returns-clause-prefix : goal.returns-clause-prefix
unfolding done_text
returns-clause-prefix g c =
    let rows = c.as_bytes-rows.ensures.value ∙ c.format.ensures.text in
    let odd = c.as_bytes-odd.ensures.value ∙ c.format-2.ensures.text in
    let units = c.as_bytes-units.ensures.value ∙ c.format-3.ensures.text in
    let fusions = c.as_bytes-fusions.ensures.value ∙ c.format-4.ensures.text in
    rw (rows, odd, units, fusions) at c.put_parts.ensures.prefix
