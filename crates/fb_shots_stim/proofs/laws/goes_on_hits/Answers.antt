use Rattle.fb_records.specs.Lines.{bare}
use Rattle.fb_shots_stim.specs.TextHits.{line_hits, begun_hits}
use Rattle.fb_records.proofs.RecordLemmas.{records_go_on, prefix_goes_on}
use Rattle.fb_shots_stim.proofs.LemmasHits.{stays_hits}
use Rattle.fb_shots_stim.proofs.FirstRecords.{leaves_hits}
use Rattle.fb_shots_stim.proofs.laws.goes_on_hits.Goals as goal

pub returns-clause-whole : goal.returns-clause-whole
returns-clause-whole c = λ n bytes more. (records_go_on (bare (line_hits n)) (bare (begun_hits n)) (stays_hits n) bytes more, prefix_goes_on (bare (line_hits n)) (bare (begun_hits n)) (stays_hits n) bytes more)

pub returns-clause-first : goal.returns-clause-first
returns-clause-first c = leaves_hits
