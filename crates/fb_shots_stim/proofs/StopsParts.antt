-- What a reader of lines of parts answers at the end of a part, of a line and of the input.
use Rattle.std.proofs.Common.{◌≡◌, ℕ, ◌<◌, Bool, true, false, List, [], ◌∷◌, ◌++◌, length, Option, Some, None, Ok, Err, refl, sym, ap, ◌∙◌, append_assoc, arith}
use Rattle.std.proofs.lemmas.List.{append-nil}
use Rattle.fb_shots_stim.specs.declared.answer.Kind.{Kind}
use Rattle.fb_records.specs.declared.answer.Next.TheVariants.{Shot, NotYet, End, Refused}
use Rattle.fb_records.specs.Records.{at_end, refused, only, with_line, Reader}
use Rattle.fb_records.specs.Answers.{Gives}
use Rattle.fb_records.specs.Lines.{holds, without_return, bare}
use Rattle.fb_shots_stim.specs.NamedDetectors.{ending_of}
use Rattle.fb_shots_stim.specs.InternalParts.{PartRules, with_parts, ended_parts, line_by_parts, begun_by_parts, records_by_parts, prefix_by_parts, is_skipped, after_by_parts, IsAt}
use Rattle.fb_shots_stim.specs.InternalAnswers.{AnswersParts}
use Rattle.fb_records.proofs.RecordLemmas.{records_none, prefix_one, prefix_none, refused_part}
use Rattle.fb_records.proofs.AnswerLemmas.{skip_gives, skip_refuses, refuses_prefix, refuses_last, gives_line, gives_last, record_after, last_after}
use Rattle.fb_shots_stim.proofs.LemmasParts.{Parts, stays_parts, whole_line, one_line_of, line_more, ended_end, ended_more, last_more, return_stays, return_holds}

abbrev pub reader : ℕ → List ℕ → Bool → Reader ℕ
reader n rest finished = record { subject = n; rest = rest; finished = finished }

-- ---- the end of a part

part_refused : (rules : PartRules) (n : ℕ) (skipped line part tail : List ℕ) (so_far : Option (List ℕ)) (kind : Kind) → IsAt rules n skipped line part so_far → rules.with_part n so_far part ≡ Err kind
    → prefix_by_parts rules n (line ++ (part ++ rules.separator ∷ tail)) ≡ only (refused kind)
part_refused rules n skipped line part tail so_far kind at e =
    let s = rules.separator in
    let here = line ++ (part ++ s ∷ []) in
    let whole : line ++ (part ++ s ∷ tail) ≡ here ++ tail =
    ap (λ (l : List ℕ). line ++ l) (sym (append_assoc part (s ∷ []) tail)) ∙ sym (append_assoc line (part ++ s ∷ []) tail) in
    let kept : without_return here ≡ here =
    ap without_return (sym (append-nil here)) ∙ return_stays s here [] at.no_return (last_more s line part at.ended) ∙ append-nil here in
    let judged : begun_by_parts rules n (without_return here) ≡ refused kind =
    ap (begun_by_parts rules n) kept ∙ ap ending_of (ended_more rules n line part at.ended at.in_part)
    ∙ ap (λ (r : Parts). ending_of (with_parts rules n r (part ∷ []))) at.read ∙ ap (λ (r : Parts). ending_of (with_parts rules n r [])) e in
    ap (prefix_by_parts rules n) whole
    ∙ (refused_part (bare (line_by_parts rules n)) (bare (begun_by_parts rules n)) (stays_parts rules n) here tail kind (line_more rules n skipped line part so_far at) judged).1

pub separator_refused : (rules : PartRules) (n : ℕ) (skipped line part tail : List ℕ) (so_far : Option (List ℕ)) (kind : Kind) (rest : List ℕ) (finished : Bool) → IsAt rules n skipped line part so_far
    → rules.with_part n so_far part ≡ Err kind → rest ≡ skipped ++ (line ++ (part ++ rules.separator ∷ tail)) → AnswersParts rules n rest finished rest (Refused kind)
separator_refused rules n skipped line part tail so_far kind rest finished at e cut =
    let here = line ++ (part ++ rules.separator ∷ tail) in (
      skip_refuses (records_by_parts rules n) (prefix_by_parts rules n) (after_by_parts rules n) skipped here (reader n rest finished) kind at.skips cut
          (refuses_prefix (bare (line_by_parts rules n)) (bare (begun_by_parts rules n)) (stays_parts rules n) (reader n here finished) kind (part_refused rules n skipped line part tail so_far kind at e)),
      refl,
    )

-- ---- the end of a line

pub newline_refused : (rules : PartRules) (n : ℕ) (skipped line part tail : List ℕ) (so_far : Option (List ℕ)) (kind : Kind) (rest : List ℕ) (finished : Bool) → IsAt rules n skipped line part so_far
    → rules.with_last n so_far (without_return part) ≡ Err kind → rest ≡ skipped ++ ((line ++ part) ++ 10 ∷ tail) → AnswersParts rules n rest finished rest (Refused kind)
newline_refused rules n skipped line part tail so_far kind rest finished at e cut =
    let here = (line ++ part) ++ 10 ∷ tail in
    let h = one_line_of rules n skipped line part so_far at in
    let given : line_by_parts rules n (without_return (line ++ part)) ≡ Err kind = whole_line rules n skipped line part so_far at ∙ e in (
      skip_refuses (records_by_parts rules n) (prefix_by_parts rules n) (after_by_parts rules n) skipped here (reader n rest finished) kind at.skips cut
          (refuses_prefix (bare (line_by_parts rules n)) (bare (begun_by_parts rules n)) (stays_parts rules n) (reader n here finished) kind
          (prefix_one (bare (line_by_parts rules n)) (bare (begun_by_parts rules n)) (line ++ part) tail h ∙ ap (λ (r : Parts). with_line r (prefix_by_parts rules n tail)) given)),
      refl,
    )

pub newline_shot : (rules : PartRules) (n : ℕ) (skipped line part tail : List ℕ) (so_far : Option (List ℕ)) (shot rest : List ℕ) (finished : Bool) → IsAt rules n skipped line part so_far
    → rules.with_last n so_far (without_return part) ≡ Ok (Some shot) → rest ≡ skipped ++ ((line ++ part) ++ 10 ∷ tail) → AnswersParts rules n rest finished tail (Shot shot)
newline_shot rules n skipped line part tail so_far shot rest finished at e cut =
    let here = (line ++ part) ++ 10 ∷ tail in
    let h = one_line_of rules n skipped line part so_far at in
    let given : line_by_parts rules n (without_return (line ++ part)) ≡ Ok (Some shot) = whole_line rules n skipped line part so_far at ∙ e in (
      skip_gives (records_by_parts rules n) (prefix_by_parts rules n) (after_by_parts rules n) skipped here (reader n rest finished) (reader n tail finished) shot at.skips cut
          (gives_line (bare (line_by_parts rules n)) (bare (begun_by_parts rules n)) (reader n here finished) (reader n tail finished) (line ++ part) shot refl h given),
      ap (λ (l : List ℕ). reader n l finished) (sym (ap (after_by_parts rules n) cut ∙ at.skips.left here
          ∙ record_after (bare (λ l. is_skipped (line_by_parts rules n l))) (line ++ part) tail h (ap is_skipped given))),
    )

-- ---- the end of what was fed

pub open_so_far : (rules : PartRules) (n : ℕ) (skipped line part : List ℕ) (so_far : Option (List ℕ)) (rest : List ℕ) (finished : Bool) → IsAt rules n skipped line part so_far → finished ≡ false → rest ≡ skipped ++ (line ++ part)
    → AnswersParts rules n rest finished rest NotYet
open_so_far rules n skipped line part so_far rest finished at e cut =
    let parts : ended_parts rules n (without_return (line ++ part)) ≡ Ok so_far =
    ap (ended_parts rules n) (return_stays rules.separator line part at.no_return at.ended)
    ∙ ended_end rules n line (without_return part) at.ended (return_holds rules.separator part at.in_part) ∙ at.read in (
      e,
      ap (prefix_by_parts rules n) cut ∙ at.skips.so_far (line ++ part)
          ∙ prefix_none (bare (line_by_parts rules n)) (bare (begun_by_parts rules n)) (line ++ part) (one_line_of rules n skipped line part so_far at) ∙ ap (λ (r : Parts). only (ending_of r)) parts,
      refl,
    )

-- ---- the end of the input

-- no line is left
pub end_empty : (rules : PartRules) (n : ℕ) (skipped line part : List ℕ) (so_far : Option (List ℕ)) (rest : List ℕ) (finished : Bool) → IsAt rules n skipped line part so_far → finished ≡ true → rest ≡ skipped
    → AnswersParts rules n rest finished rest End
end_empty rules n skipped line part so_far rest finished at done cut =
    (done, ap (records_by_parts rules n) (cut ∙ sym (append-nil skipped)) ∙ at.skips.whole [], refl)

last_line : (rules : PartRules) (n : ℕ) (line : List ℕ) (given : Parts) → 0 < length line → holds 10 line ≡ false → line_by_parts rules n (without_return line) ≡ given
    → records_by_parts rules n line ≡ with_line given (only at_end)
last_line rules n [] given some h e = absurd (omega arith)
last_line rules n (b ∷ line) given some h e = records_none (bare (line_by_parts rules n)) b line h ∙ ap (λ (r : Parts). with_line r (only at_end)) e

pub end_refused : (rules : PartRules) (n : ℕ) (skipped line part : List ℕ) (so_far : Option (List ℕ)) (kind : Kind) (rest : List ℕ) (finished : Bool) → IsAt rules n skipped line part so_far → finished ≡ true
    → rules.with_last n so_far (without_return part) ≡ Err kind → rest ≡ skipped ++ (line ++ part) → 0 < length (line ++ part) → AnswersParts rules n rest finished rest (Refused kind)
end_refused rules n skipped line part so_far kind rest finished at done e cut some =
    let here = line ++ part in
    let given : line_by_parts rules n (without_return here) ≡ Err kind = whole_line rules n skipped line part so_far at ∙ e in (
      skip_refuses (records_by_parts rules n) (prefix_by_parts rules n) (after_by_parts rules n) skipped here (reader n rest finished) kind at.skips cut
          (refuses_last (bare (line_by_parts rules n)) (bare (begun_by_parts rules n)) (reader n here finished) kind done
          (last_line rules n here (Err kind) some (one_line_of rules n skipped line part so_far at) given)),
      refl,
    )

pub end_nothing : (rules : PartRules) (n : ℕ) (skipped line part : List ℕ) (so_far : Option (List ℕ)) (rest : List ℕ) (finished : Bool) → IsAt rules n skipped line part so_far → finished ≡ true
    → rules.with_last n so_far (without_return part) ≡ Ok None → rest ≡ skipped ++ (line ++ part) → 0 < length (line ++ part) → AnswersParts rules n rest finished rest End
end_nothing rules n skipped line part so_far rest finished at done e cut some =
    let here = line ++ part in
    let given : line_by_parts rules n (without_return here) ≡ Ok None = whole_line rules n skipped line part so_far at ∙ e in
    (done, ap (records_by_parts rules n) cut ∙ at.skips.whole here ∙ last_line rules n here (Ok None) some (one_line_of rules n skipped line part so_far at) given, refl)

last_gives : (rules : PartRules) (n : ℕ) (line shot : List ℕ) (finished : Bool) → finished ≡ true → 0 < length line → holds 10 line ≡ false → line_by_parts rules n (without_return line) ≡ Ok (Some shot)
    → Gives (records_by_parts rules n) (prefix_by_parts rules n) (reader n line finished) (reader n [] finished) shot
last_gives rules n [] shot finished done some h e = absurd (omega arith)
last_gives rules n (b ∷ line) shot finished done some h e =
    gives_last (bare (line_by_parts rules n)) (bare (begun_by_parts rules n)) (reader n (b ∷ line) finished) (reader n [] finished) b line shot done refl refl h e

after_last : (rules : PartRules) (n : ℕ) (line : List ℕ) → 0 < length line → holds 10 line ≡ false → is_skipped (line_by_parts rules n (without_return line)) ≡ false → after_by_parts rules n line ≡ []
after_last rules n [] some h shown = absurd (omega arith)
after_last rules n (b ∷ line) some h shown = last_after (bare (λ l. is_skipped (line_by_parts rules n l))) b line h shown

pub end_shot : (rules : PartRules) (n : ℕ) (skipped line part : List ℕ) (so_far : Option (List ℕ)) (shot rest : List ℕ) (finished : Bool) → IsAt rules n skipped line part so_far → finished ≡ true
    → rules.with_last n so_far (without_return part) ≡ Ok (Some shot) → rest ≡ skipped ++ (line ++ part) → 0 < length (line ++ part) → AnswersParts rules n rest finished [] (Shot shot)
end_shot rules n skipped line part so_far shot rest finished at done e cut some =
    let here = line ++ part in
    let h = one_line_of rules n skipped line part so_far at in
    let given : line_by_parts rules n (without_return here) ≡ Ok (Some shot) = whole_line rules n skipped line part so_far at ∙ e in (
      skip_gives (records_by_parts rules n) (prefix_by_parts rules n) (after_by_parts rules n) skipped here (reader n rest finished) (reader n [] finished) shot at.skips cut
          (last_gives rules n here shot finished done some h given),
      ap (λ (l : List ℕ). reader n l finished) (sym (ap (after_by_parts rules n) cut ∙ at.skips.left here ∙ after_last rules n here some h (ap is_skipped given))),
    )
