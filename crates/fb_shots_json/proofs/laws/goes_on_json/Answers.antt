use Rattle.fb_shots_json.specs.TextJson.{line_json, begun_json}
use Rattle.fb_records.proofs.RecordLemmas.{records_go_on, prefix_goes_on}
use Rattle.fb_shots_json.proofs.TextLemmas.{stays_json}
use Rattle.fb_shots_json.proofs.FirstRecords.{leaves_json}
use Rattle.fb_shots_json.proofs.laws.goes_on_json.Goals as goal

pub returns-clause-whole : goal.returns-clause-whole
returns-clause-whole c = λ g bytes more. (records_go_on (line_json g) begun_json (stays_json g) bytes more, prefix_goes_on (line_json g) begun_json (stays_json g) bytes more)

pub returns-clause-first : goal.returns-clause-first
returns-clause-first c = leaves_json
