use Rattle.fb_records.specs.Lines.{bare}
use Rattle.fb_shots_stim.specs.Text01.{line_01, begun_01}
use Rattle.fb_records.proofs.RecordLemmas.{records_go_on, prefix_goes_on}
use Rattle.fb_shots_stim.proofs.Lemmas01.{stays_01}
use Rattle.fb_shots_stim.proofs.FirstRecords.{leaves_01}
use Rattle.fb_shots_stim.proofs.laws.goes_on_01.Goals as goal

pub returns-clause-whole : goal.returns-clause-whole
returns-clause-whole c = λ n bytes more. (records_go_on (bare (line_01 n)) (bare (begun_01 n)) (stays_01 n) bytes more, prefix_goes_on (bare (line_01 n)) (bare (begun_01 n)) (stays_01 n) bytes more)

pub returns-clause-first : goal.returns-clause-first
returns-clause-first c = leaves_01
