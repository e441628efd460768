use Rattle.fb_records.specs.Lines.{bare}
use Rattle.fb_shots_stim.specs.TextDets.{line_dets, begun_dets}
use Rattle.fb_records.proofs.RecordLemmas.{records_go_on, prefix_goes_on}
use Rattle.fb_shots_stim.proofs.LemmasDets.{stays_dets}
use Rattle.fb_shots_stim.proofs.FirstRecords.{leaves_dets}
use Rattle.fb_shots_stim.proofs.laws.goes_on_dets.Goals as goal

pub returns-clause-whole : goal.returns-clause-whole
returns-clause-whole c = λ n bytes more. (records_go_on (bare (line_dets n)) (bare (begun_dets n)) (stays_dets n) bytes more, prefix_goes_on (bare (line_dets n)) (bare (begun_dets n)) (stays_dets n) bytes more)

pub returns-clause-first : goal.returns-clause-first
returns-clause-first c = leaves_dets
