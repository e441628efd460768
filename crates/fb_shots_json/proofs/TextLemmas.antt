-- What JSON lines come to, line by line.
use Rattle.std.specs.Prelude.{if◌then◌else◌}
use Rattle.std.proofs.Common.{◌≡◌, ℕ, ◌<◌, Bool, true, false, ◌&&◌, List, [], ◌∷◌, ◌++◌, length, Some, None, Ok, Err, refl, sym, ap, ◌∙◌, inl, inr, arith}
use Rattle.std.proofs.lemmas.Bool.{cases_Bool, ltb-true, lt-ltb}
use Rattle.std.proofs.lemmas.List.{length-append}
use Rattle.std.proofs.lemmas.List.Folds.{list_all-append}
use Rattle.fb_graph.specs.Limits.{DecodingGraph, ShotValue}
use Rattle.fb_shots_json.specs.declared.answer.Kind.{Kind}
use Rattle.fb_shots_json.specs.declared.answer.Kind.TheVariants.{LineTooLong}
use Rattle.fb_records.specs.declared.answer.Next.TheVariants.{Shot, NotYet, End, Refused}
use Rattle.fb_records.specs.Records.{still_open, refused, only, Judged, with_line, Reader}
use Rattle.fb_records.specs.Lines.{holds, Stays}
use Rattle.fb_records.specs.Answers.{Gives}
use Rattle.fb_records.proofs.LineLemmas.{holds_none}
use Rattle.fb_records.proofs.RecordLemmas.{prefix_one, prefix_none}
use Rattle.fb_records.proofs.AnswerLemmas.{skips_nothing, skips_line, skip_gives, skip_refuses, refuses_prefix, refuses_last, gives_line, gives_last, records_end, blank_after, record_after, last_after}
use Rattle.fb_shots_json.specs.TextJson.{is_blank, is_blank_byte, is_too_long, as_shot, shot_of_line, line_json, begun_json, records_json, prefix_json, after_record}
use Rattle.fb_json.specs.JsonText.{most_bytes}
use Rattle.fb_shots_json.specs.InternalPlaces.{IsAt}
use Rattle.fb_shots_json.specs.InternalAnswers.{AnswersJson}

-- ---- one line

pub blank_line : (g : DecodingGraph) (line : List ℕ) → is_blank line ≡ true → line_json g line ≡ Ok None
blank_line g line blank = ap (λ (b : Bool). if b then Ok None else as_shot (shot_of_line g line)) blank

pub some_line : (g : DecodingGraph) (line : List ℕ) → is_blank line ≡ false → line_json g line ≡ as_shot (shot_of_line g line)
some_line g line some = ap (λ (b : Bool). if b then Ok None else as_shot (shot_of_line g line)) some

long_line : (g : DecodingGraph) (line : List ℕ) → is_blank line ≡ false → is_too_long line ≡ true → line_json g line ≡ Err LineTooLong
long_line g line some long = some_line g line some ∙ rw long refl

begun_long : (line : List ℕ) → is_blank line ≡ false → is_too_long line ≡ true → begun_json line ≡ refused LineTooLong
begun_long line some long = rw (some, long) refl

begun_short : (line : List ℕ) → is_too_long line ≡ false → begun_json line ≡ still_open
begun_short line short = elim (cases_Bool (is_blank line)) [
  | inl blank ↦ rw blank refl
  | inr some ↦ rw (some, short) refl
]

begun_blank : (line : List ℕ) → is_blank line ≡ true → begun_json line ≡ still_open
begun_blank line blank = rw blank refl

begun_refused : (line : List ℕ) (kind : Kind) → begun_json line ≡ refused kind → (is_blank line ≡ false) × (is_too_long line ≡ true) × (LineTooLong ≡ kind)
begun_refused line kind e = elim (cases_Bool (is_blank line)) [
  | inl blank ↦ absurd (let open_ = begun_blank line blank in cc)
  | inr some ↦ elim (cases_Bool (is_too_long line)) [
    | inl long ↦ (some, long, (let kept = begun_long line some long in cc))
    | inr short ↦ absurd (let open_ = begun_short line short in cc)
  ]
]

more_some : (line more : List ℕ) → is_blank line ≡ false → is_blank (line ++ more) ≡ false
more_some line more some = list_all-append is_blank_byte line more ∙ ap (λ (b : Bool). b && is_blank more) some

more_long : (line more : List ℕ) → is_too_long line ≡ true → is_too_long (line ++ more) ≡ true
more_long line more long =
    lt-ltb most_bytes (length (line ++ more)) (let lt : most_bytes < length line = ltb-true most_bytes (length line) long in omega (arith, length-append line more))

pub stays_json : (g : DecodingGraph) → Stays (line_json g) begun_json
stays_json g = record {
  nothing = refl;
  line = λ part more kind e.
      let b = begun_refused part kind e in
      long_line g (part ++ more) (more_some part more b.0) (more_long part more b.1) ∙ ap (λ (k : Kind). Err k) b.2;
  part = λ part more kind e.
      let b = begun_refused part kind e in
      begun_long (part ++ more) (more_some part more b.0) (more_long part more b.1) ∙ ap (λ (k : Kind). refused k) b.2;
}

-- ---- where a reader stands

pub at_start : (g : DecodingGraph) → IsAt g [] []
at_start g = record { skips = skips_nothing (records_json g) (prefix_json g) after_record; one_line = refl }

pub at_more : (g : DecodingGraph) (skipped line more : List ℕ) → IsAt g skipped line → holds 10 more ≡ false → IsAt g skipped (line ++ more)
at_more g skipped line more at h = record { skips = at.skips; one_line = holds_none 10 line more at.one_line h }

-- a newline after a blank line
pub at_newline : (g : DecodingGraph) (skipped line : List ℕ) → IsAt g skipped line → is_blank line ≡ true → IsAt g (skipped ++ line ++ 10 ∷ []) []
at_newline g skipped line at blank = record {
  skips = skips_line (line_json g) begun_json after_record skipped line at.skips at.one_line (blank_line g line blank)
      (λ more. blank_after is_blank line more at.one_line blank);
  one_line = refl;
}

abbrev reader : DecodingGraph → List ℕ → Bool → Reader DecodingGraph
reader g rest finished = record { subject = g; rest = rest; finished = finished }

-- ---- the end of a line that isn't blank

pub newline_refused : (g : DecodingGraph) (skipped line tail : List ℕ) (kind : Kind) (rest : List ℕ) (finished : Bool) → IsAt g skipped line → is_blank line ≡ false
    → shot_of_line g line ≡ Err kind → rest ≡ skipped ++ (line ++ 10 ∷ tail) → AnswersJson g rest finished rest (Refused kind)
newline_refused g skipped line tail kind rest finished at some e cut =
    let here = line ++ 10 ∷ tail in
    let given : line_json g line ≡ Err kind = some_line g line some ∙ ap as_shot e in (
      skip_refuses (records_json g) (prefix_json g) after_record skipped here (reader g rest finished) kind at.skips cut
          (refuses_prefix (line_json g) begun_json (stays_json g) (reader g here finished) kind
          (prefix_one (line_json g) begun_json line tail at.one_line ∙ ap (λ (r : Judged ShotValue Kind). with_line r (prefix_json g tail)) given)),
      refl,
    )

pub newline_shot : (g : DecodingGraph) (skipped line tail : List ℕ) (shot : ShotValue) (rest : List ℕ) (finished : Bool) → IsAt g skipped line → is_blank line ≡ false
    → shot_of_line g line ≡ Ok shot → rest ≡ skipped ++ (line ++ 10 ∷ tail) → AnswersJson g rest finished tail (Shot shot)
newline_shot g skipped line tail shot rest finished at some e cut =
    let here = line ++ 10 ∷ tail in
    let given : line_json g line ≡ Ok (Some shot) = some_line g line some ∙ ap as_shot e in (
      skip_gives (records_json g) (prefix_json g) after_record skipped here (reader g rest finished) (reader g tail finished) shot at.skips cut
          (gives_line (line_json g) begun_json (reader g here finished) (reader g tail finished) line shot refl at.one_line given),
      ap (λ (l : List ℕ). reader g l finished) (sym (ap after_record cut ∙ at.skips.left here ∙ record_after is_blank line tail at.one_line some)),
    )

-- ---- the end of what was fed

pub open_refused : (g : DecodingGraph) (skipped line rest : List ℕ) (finished : Bool) → IsAt g skipped line → is_blank line ≡ false → is_too_long line ≡ true
    → rest ≡ skipped ++ line → AnswersJson g rest finished rest (Refused LineTooLong)
open_refused g skipped line rest finished at some long cut = (
  skip_refuses (records_json g) (prefix_json g) after_record skipped line (reader g rest finished) LineTooLong at.skips cut
      (refuses_prefix (line_json g) begun_json (stays_json g) (reader g line finished) LineTooLong
      (prefix_none (line_json g) begun_json line at.one_line ∙ ap only (begun_long line some long))),
  refl,
)

open_answer : (g : DecodingGraph) (skipped line rest : List ℕ) (finished : Bool) → IsAt g skipped line → finished ≡ false → begun_json line ≡ still_open
    → rest ≡ skipped ++ line → AnswersJson g rest finished rest NotYet
open_answer g skipped line rest finished at e begun cut =
    (e, ap (prefix_json g) cut ∙ at.skips.so_far line ∙ prefix_none (line_json g) begun_json line at.one_line ∙ ap only begun, refl)

pub open_blank : (g : DecodingGraph) (skipped line rest : List ℕ) (finished : Bool) → IsAt g skipped line → finished ≡ false → is_blank line ≡ true
    → rest ≡ skipped ++ line → AnswersJson g rest finished rest NotYet
open_blank g skipped line rest finished at e blank cut = open_answer g skipped line rest finished at e (begun_blank line blank) cut

pub open_short : (g : DecodingGraph) (skipped line rest : List ℕ) (finished : Bool) → IsAt g skipped line → finished ≡ false → is_too_long line ≡ false
    → rest ≡ skipped ++ line → AnswersJson g rest finished rest NotYet
open_short g skipped line rest finished at e short cut = open_answer g skipped line rest finished at e (begun_short line short) cut

-- ---- the end of the input

pub end_refused : (g : DecodingGraph) (skipped line : List ℕ) (kind : Kind) (rest : List ℕ) (finished : Bool) → IsAt g skipped line → finished ≡ true → is_blank line ≡ false
    → shot_of_line g line ≡ Err kind → rest ≡ skipped ++ line → AnswersJson g rest finished rest (Refused kind)
end_refused g skipped line kind rest finished at done some e cut = (
  skip_refuses (records_json g) (prefix_json g) after_record skipped line (reader g rest finished) kind at.skips cut
      (refuses_last (line_json g) begun_json (reader g line finished) kind done (records_end (line_json g) line (Err kind) refl at.one_line (some_line g line some ∙ ap as_shot e))),
  refl,
)

pub end_nothing : (g : DecodingGraph) (skipped line rest : List ℕ) (finished : Bool) → IsAt g skipped line → finished ≡ true → is_blank line ≡ true
    → rest ≡ skipped ++ line → AnswersJson g rest finished rest End
end_nothing g skipped line rest finished at done blank cut =
    (done, ap (records_json g) cut ∙ at.skips.whole line ∙ records_end (line_json g) line (Ok None) refl at.one_line (blank_line g line blank), refl)

last_gives : (g : DecodingGraph) (line : List ℕ) (shot : ShotValue) (finished : Bool) → finished ≡ true → holds 10 line ≡ false → is_blank line ≡ false → line_json g line ≡ Ok (Some shot)
    → Gives (records_json g) (prefix_json g) (reader g line finished) (reader g [] finished) shot
last_gives g [] shot finished done h some e = absurd cc
last_gives g (b ∷ line) shot finished done h some e = gives_last (line_json g) begun_json (reader g (b ∷ line) finished) (reader g [] finished) b line shot done refl refl h e

after_last : (line : List ℕ) → holds 10 line ≡ false → is_blank line ≡ false → after_record line ≡ []
after_last [] h some = absurd cc
after_last (b ∷ line) h some = last_after is_blank b line h some

pub end_shot : (g : DecodingGraph) (skipped line : List ℕ) (shot : ShotValue) (rest : List ℕ) (finished : Bool) → IsAt g skipped line → finished ≡ true → is_blank line ≡ false
    → shot_of_line g line ≡ Ok shot → rest ≡ skipped ++ line → AnswersJson g rest finished [] (Shot shot)
end_shot g skipped line shot rest finished at done some e cut = (
  skip_gives (records_json g) (prefix_json g) after_record skipped line (reader g rest finished) (reader g [] finished) shot at.skips cut
      (last_gives g line shot finished done at.one_line some (some_line g line some ∙ ap as_shot e)),
  ap (λ (l : List ℕ). reader g l finished) (sym (ap after_record cut ∙ at.skips.left line ∙ after_last line at.one_line some)),
)
