-- What is left of an input without its first record.
use Rattle.std.proofs.Common.{◌≡◌, true, false, List, ℕ, None, Some, Result, Ok, Err, sym, ◌∙◌, inl, inr}
use Rattle.std.proofs.lemmas.Bool.{cases_Bool}
use Rattle.fb_graph.specs.Limits.{DecodingGraph, ShotValue}
use Rattle.fb_records.specs.Answers.{FirstRecordLeaves}
use Rattle.fb_records.proofs.AnswerLemmas.{blank_after, record_after}
use Rattle.fb_records.proofs.FirstRecords.{leaves_first}
use Rattle.fb_shots_json.specs.declared.answer.Kind.{Kind}
use Rattle.fb_shots_json.specs.TextJson.{is_blank, as_shot, shot_of_line, line_json, begun_json, records_json, prefix_json, after_record}
use Rattle.fb_shots_json.proofs.TextLemmas.{blank_line, some_line}

as_shot_some : {P : Type 0} (r : Result ShotValue Kind) → as_shot r ≡ Ok None → P
as_shot_some (Ok shot) e = absurd cc
as_shot_some (Err kind) e = absurd cc

skipped_blank : (g : DecodingGraph) (line : List ℕ) → line_json g line ≡ Ok None → is_blank line ≡ true
skipped_blank g line e = elim (cases_Bool (is_blank line)) [
  | inl blank ↦ blank
  | inr some ↦ as_shot_some (shot_of_line g line) (sym (some_line g line some) ∙ e)
]

shot_not_blank : (g : DecodingGraph) (line : List ℕ) (shot : ShotValue) → line_json g line ≡ Ok (Some shot) → is_blank line ≡ false
shot_not_blank g line shot e = elim (cases_Bool (is_blank line)) [
  | inl blank ↦ absurd (let none = blank_line g line blank in cc)
  | inr some ↦ some
]

pub leaves_json : FirstRecordLeaves records_json prefix_json (λ g. after_record)
leaves_json g bytes shot shots e =
    leaves_first (line_json g) begun_json after_record
    (record {
      skips = λ line more h none. blank_after is_blank line more h (skipped_blank g line none);
      takes = λ line more s h some. record_after is_blank line more h (shot_not_blank g line s some);
    })
    bytes shot shots e
