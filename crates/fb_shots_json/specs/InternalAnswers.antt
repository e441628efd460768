-- The result of a step of the reader of JSON lines.
use Rattle.std.specs.Prelude.{ℕ, Bool, List}
use Rattle.fb_graph.specs.Limits.{DecodingGraph, ShotValue}
use Rattle.fb_records.specs.declared.answer.Next.{Next}
use Rattle.fb_records.specs.Steps.{AnswersRest}
use Rattle.fb_shots_json.specs.declared.answer.Kind.{Kind}
use Rattle.fb_shots_json.specs.TextJson.{records_json, prefix_json, after_record}

-- the result for a rest, and what it leaves
abbrev pub AnswersJson : DecodingGraph → List ℕ → Bool → List ℕ → Next ShotValue Kind → Type 0
AnswersJson = AnswersRest records_json prefix_json (λ g. after_record)
