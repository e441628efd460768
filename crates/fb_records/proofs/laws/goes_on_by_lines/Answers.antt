use Rattle.fb_records.proofs.RecordLemmas.{records_go_on, prefix_goes_on}
use Rattle.fb_records.proofs.FirstRecords.{leaves_first}
use Rattle.fb_records.proofs.laws.goes_on_by_lines.Goals as goal

pub returns-clause-whole : goal.returns-clause-whole
returns-clause-whole g c = λ judge begun stays bytes more. (records_go_on judge begun stays bytes more, prefix_goes_on judge begun stays bytes more)

pub returns-clause-first : goal.returns-clause-first
returns-clause-first g c = λ judge begun after leaves bytes shot shots e. leaves_first judge begun after leaves bytes shot shots e
