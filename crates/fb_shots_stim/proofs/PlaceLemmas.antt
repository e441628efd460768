-- A reader of lines of parts at a place.
use Rattle.std.proofs.Common.{◌≡◌, ℕ, ◌+◌, ◌<◌, ◌≤◌, Bool, true, false, eqb, List, [], ◌∷◌, ◌++◌, length, get_or, take, drop, Option, Some, None, Result, Ok, Err, refl, sym, ap, subst, ◌∙◌, append_assoc, arith}
use Rattle.std.proofs.lemmas.List.{append-nil, take-append-drop, take_all, drop_all, drop_more, length-append, length-take-le}
use Rattle.std.specs.Prelude.{IfOk, IfErr, IfSome, IfNone}
use Rattle.fb_shots_stim.specs.declared.answer.Kind.{Kind}
use Rattle.fb_records.specs.declared.answer.Stop.{Stop}
use Rattle.fb_records.specs.declared.answer.Next.TheVariants.{Shot, NotYet, End, Refused}
use Rattle.fb_records.specs.Lines.{holds, without_return}
use Rattle.fb_records.specs.Steps.{part_of, IfRefused}
use Rattle.fb_shots_stim.specs.Shots.{IsShotOf}
use Rattle.fb_shots_stim.specs.InternalParts.{PartRules, RecordSoFar, IsAt, IsPlace}
use Rattle.fb_shots_stim.specs.InternalAnswers.{AnswersParts}
use Rattle.fb_records.proofs.AnswerLemmas.{refused_then}
use Rattle.fb_records.proofs.PartLemmas.{part_none, part_two, take_part, part_more}
use Rattle.fb_shots_stim.proofs.LemmasParts.{at_start, at_more, at_part, at_newline}
use Rattle.fb_shots_stim.proofs.StopsParts.{separator_refused, newline_refused, newline_shot, open_so_far, end_empty, end_refused, end_nothing, end_shot}

-- ---- places

-- the bytes, by the place
place_cut : (rules : PartRules) (now : RecordSoFar) (bytes : List ℕ) (line part seen : ℕ) → IsPlace rules now bytes line part seen
    → bytes ≡ take line bytes ++ (part_of bytes line part ++ (part_of bytes part seen ++ drop seen bytes))
place_cut rules now bytes line part seen p =
    let first = p.line_first in
    let next = p.part_next in
    sym (take-append-drop seen bytes)
    ∙ ap (λ (l : List ℕ). l ++ drop seen bytes) (take_part bytes line seen (omega arith) ∙ ap (λ (l : List ℕ). take line bytes ++ l) (part_two bytes line part seen first next))
    ∙ append_assoc (take line bytes) (part_of bytes line part ++ part_of bytes part seen) (drop seen bytes)
    ∙ ap (λ (l : List ℕ). take line bytes ++ l) (append_assoc (part_of bytes line part) (part_of bytes part seen) (drop seen bytes))

pub place_start : (rules : PartRules) (now : RecordSoFar) (bytes : List ℕ) → eqb rules.separator 10 ≡ false → eqb rules.separator 13 ≡ false → now.named ≡ None → IsPlace rules now bytes 0 0 0
place_start rules now bytes in_lines no_return e = record {
  line_first = omega arith;
  part_next = omega arith;
  within = omega arith;
  parts = subst (λ (o : Option (List ℕ)). IsAt rules now.detectors [] [] [] o) (sym e) (at_start rules now.detectors in_lines no_return);
}

-- no record is begun any more
pub place_anew : (rules : PartRules) (old new : RecordSoFar) (bytes : List ℕ) (line part seen : ℕ) → IsPlace rules old bytes line part seen → new.named ≡ None → (left : List ℕ) → IsPlace rules new left 0 0 0
place_anew rules old new bytes line part seen p none left = place_start rules new left p.parts.in_lines p.parts.no_return none

pub place_seen : (rules : PartRules) (now : RecordSoFar) (bytes : List ℕ) (line part seen on : ℕ) → IsPlace rules now bytes line part seen → seen ≤ on → on ≤ length bytes
    → holds 10 (part_of bytes seen on) ≡ false → holds rules.separator (part_of bytes seen on) ≡ false → IsPlace rules now bytes line part on
place_seen rules now bytes line part seen on p le within in_line in_part =
    let next = p.part_next in
    record {
      line_first = p.line_first;
      part_next = omega arith;
      within = within;
      parts = subst (λ (l : List ℕ). IsAt rules now.detectors (take line bytes) (part_of bytes line part) l now.named) (sym (part_two bytes part seen on next le))
          (at_more rules now.detectors (take line bytes) (part_of bytes line part) (part_of bytes part seen) (part_of bytes seen on) now.named p.parts in_line in_part);
    }

-- a separator after the part that is seen
pub place_part : (rules : PartRules) (old new : RecordSoFar) (bytes : List ℕ) (line part seen : ℕ) → IsPlace rules old bytes line part seen → seen < length bytes → get_or bytes seen 0 ≡ rules.separator → new.detectors ≡ old.detectors
    → rules.with_part old.detectors old.named (part_of bytes part seen) ≡ Ok new.named → IsPlace rules new bytes line (seen + 1) (seen + 1)
place_part rules old new bytes line part seen p lt ends same e =
    let first = p.line_first in
    let next = p.part_next in
    let longer : part_of bytes line (seen + 1) ≡ part_of bytes line part ++ (part_of bytes part seen ++ rules.separator ∷ []) =
    part_two bytes line part (seen + 1) first (omega arith)
    ∙ ap (λ (l : List ℕ). part_of bytes line part ++ l) (part_more bytes part seen next lt ∙ ap (λ (b : ℕ). part_of bytes part seen ++ b ∷ []) ends) in
    record {
      line_first = omega arith;
      part_next = omega arith;
      within = omega arith;
      parts = subst (λ (n : ℕ). IsAt rules n (take line bytes) (part_of bytes line (seen + 1)) (part_of bytes (seen + 1) (seen + 1)) new.named) (sym same)
          (subst (λ (l : List ℕ). IsAt rules old.detectors (take line bytes) (part_of bytes line (seen + 1)) l new.named) (sym (part_none bytes (seen + 1)))
          (subst (λ (l : List ℕ). IsAt rules old.detectors (take line bytes) l [] new.named) (sym longer)
          (at_part rules old.detectors (take line bytes) (part_of bytes line part) (part_of bytes part seen) old.named new.named p.parts e)));
    }

pub place_part_refused : (rules : PartRules) (old : RecordSoFar) (bytes : List ℕ) (line part seen : ℕ) (kind : Kind) → IsPlace rules old bytes line part seen → seen < length bytes → get_or bytes seen 0 ≡ rules.separator
    → rules.with_part old.detectors old.named (part_of bytes part seen) ≡ Err kind → (finished : Bool) → AnswersParts rules old.detectors bytes finished bytes (Refused kind)
place_part_refused rules old bytes line part seen kind p lt ends e finished =
    let tail : drop seen bytes ≡ rules.separator ∷ drop (seen + 1) bytes = drop_more bytes seen 0 lt ∙ ap (λ (b : ℕ). b ∷ drop (seen + 1) bytes) ends in
    let cut = place_cut rules old bytes line part seen p ∙ ap (λ (l : List ℕ). take line bytes ++ (part_of bytes line part ++ (part_of bytes part seen ++ l))) tail in
    separator_refused rules old.detectors (take line bytes) (part_of bytes line part) (part_of bytes part seen) (drop (seen + 1) bytes) old.named kind bytes finished p.parts e cut

-- a newline after the part that is seen
newline_cut : (rules : PartRules) (old : RecordSoFar) (bytes : List ℕ) (line part seen : ℕ) → IsPlace rules old bytes line part seen → seen < length bytes → get_or bytes seen 0 ≡ 10
    → bytes ≡ take line bytes ++ ((part_of bytes line part ++ part_of bytes part seen) ++ 10 ∷ drop (seen + 1) bytes)
newline_cut rules old bytes line part seen p lt newline =
    let tail : drop seen bytes ≡ 10 ∷ drop (seen + 1) bytes = drop_more bytes seen 0 lt ∙ ap (λ (b : ℕ). b ∷ drop (seen + 1) bytes) newline in
    place_cut rules old bytes line part seen p
    ∙ ap (λ (l : List ℕ). take line bytes ++ (part_of bytes line part ++ (part_of bytes part seen ++ l))) tail
    ∙ ap (λ (l : List ℕ). take line bytes ++ l) (sym (append_assoc (part_of bytes line part) (part_of bytes part seen) (10 ∷ drop (seen + 1) bytes)))

pub place_newline_refused : (rules : PartRules) (old : RecordSoFar) (bytes : List ℕ) (line part seen : ℕ) (kind : Kind) → IsPlace rules old bytes line part seen → seen < length bytes → get_or bytes seen 0 ≡ 10
    → rules.with_last old.detectors old.named (without_return (part_of bytes part seen)) ≡ Err kind → (finished : Bool) → AnswersParts rules old.detectors bytes finished bytes (Refused kind)
place_newline_refused rules old bytes line part seen kind p lt newline e finished =
    newline_refused rules old.detectors (take line bytes) (part_of bytes line part) (part_of bytes part seen) (drop (seen + 1) bytes) old.named kind bytes finished p.parts e (newline_cut rules old bytes line part seen p lt newline)

pub place_newline_shot : (rules : PartRules) (old : RecordSoFar) (bytes : List ℕ) (line part seen : ℕ) (shot : List ℕ) → IsPlace rules old bytes line part seen → seen < length bytes → get_or bytes seen 0 ≡ 10
    → rules.with_last old.detectors old.named (without_return (part_of bytes part seen)) ≡ Ok (Some shot) → (finished : Bool) → AnswersParts rules old.detectors bytes finished (drop (seen + 1) bytes) (Shot shot)
place_newline_shot rules old bytes line part seen shot p lt newline e finished =
    newline_shot rules old.detectors (take line bytes) (part_of bytes line part) (part_of bytes part seen) (drop (seen + 1) bytes) old.named shot bytes finished p.parts e (newline_cut rules old bytes line part seen p lt newline)

pub place_newline : (rules : PartRules) (old new : RecordSoFar) (bytes : List ℕ) (line part seen : ℕ) → IsPlace rules old bytes line part seen → seen < length bytes → get_or bytes seen 0 ≡ 10 → new.detectors ≡ old.detectors → new.named ≡ None
    → rules.with_last old.detectors old.named (without_return (part_of bytes part seen)) ≡ Ok None → IsPlace rules new bytes (seen + 1) (seen + 1) (seen + 1)
place_newline rules old new bytes line part seen p lt newline same none e =
    let first = p.line_first in
    let next = p.part_next in
    let longer : take (seen + 1) bytes ≡ take line bytes ++ (part_of bytes line part ++ part_of bytes part seen) ++ 10 ∷ [] =
    take_part bytes line (seen + 1) (omega arith)
    ∙ ap (λ (l : List ℕ). take line bytes ++ l) (part_more bytes line seen (omega arith) lt
    ∙ ap (λ (l : List ℕ). l ++ get_or bytes seen 0 ∷ []) (part_two bytes line part seen first next)
    ∙ ap (λ (b : ℕ). (part_of bytes line part ++ part_of bytes part seen) ++ b ∷ []) newline)
    ∙ sym (append_assoc (take line bytes) (part_of bytes line part ++ part_of bytes part seen) (10 ∷ [])) in
    let at = at_newline rules old.detectors (take line bytes) (part_of bytes line part) (part_of bytes part seen) old.named p.parts e in
    record {
      line_first = omega arith;
      part_next = omega arith;
      within = omega arith;
      parts = subst (λ (n : ℕ). IsAt rules n (take (seen + 1) bytes) (part_of bytes (seen + 1) (seen + 1)) (part_of bytes (seen + 1) (seen + 1)) new.named) (sym same)
          (subst (λ (o : Option (List ℕ)). IsAt rules old.detectors (take (seen + 1) bytes) (part_of bytes (seen + 1) (seen + 1)) (part_of bytes (seen + 1) (seen + 1)) o) (sym none)
          (subst (λ (l : List ℕ). IsAt rules old.detectors (take (seen + 1) bytes) l l None) (sym (part_none bytes (seen + 1)))
          (subst (λ (l : List ℕ). IsAt rules old.detectors l [] [] None) (sym longer) at)));
    }

-- ---- the end of what was fed

end_cut : (rules : PartRules) (old : RecordSoFar) (bytes : List ℕ) (line part seen : ℕ) → IsPlace rules old bytes line part seen → seen ≡ length bytes → bytes ≡ take line bytes ++ (part_of bytes line part ++ part_of bytes part seen)
end_cut rules old bytes line part seen p all =
    place_cut rules old bytes line part seen p
    ∙ ap (λ (l : List ℕ). take line bytes ++ (part_of bytes line part ++ (part_of bytes part seen ++ l))) (drop_all seen bytes (omega arith))
    ∙ ap (λ (l : List ℕ). take line bytes ++ (part_of bytes line part ++ l)) (append-nil (part_of bytes part seen))

-- some byte is in the last line
last_some : (bytes here : List ℕ) (line : ℕ) → bytes ≡ take line bytes ++ here → line < length bytes → 0 < length here
last_some bytes here line cut lt = omega (arith, ap length cut, length-append (take line bytes) here, length-take-le line bytes (omega arith))

pub place_open : (rules : PartRules) (old : RecordSoFar) (bytes : List ℕ) (line part seen : ℕ) (finished : Bool) → IsPlace rules old bytes line part seen → seen ≡ length bytes → finished ≡ false
    → AnswersParts rules old.detectors bytes finished bytes NotYet
place_open rules old bytes line part seen finished p all e =
    open_so_far rules old.detectors (take line bytes) (part_of bytes line part) (part_of bytes part seen) old.named bytes finished p.parts e (end_cut rules old bytes line part seen p all)

pub place_empty : (rules : PartRules) (old : RecordSoFar) (bytes : List ℕ) (line part seen : ℕ) (finished : Bool) → IsPlace rules old bytes line part seen → line ≡ length bytes → finished ≡ true
    → AnswersParts rules old.detectors bytes finished bytes End
place_empty rules old bytes line part seen finished p all e =
    end_empty rules old.detectors (take line bytes) (part_of bytes line part) (part_of bytes part seen) old.named bytes finished p.parts e (sym (take_all line bytes (omega arith)))

place_end_refused : (rules : PartRules) (old : RecordSoFar) (bytes : List ℕ) (line part seen : ℕ) (kind : Kind) → IsPlace rules old bytes line part seen → seen ≡ length bytes → line < length bytes
    → rules.with_last old.detectors old.named (without_return (part_of bytes part seen)) ≡ Err kind → AnswersParts rules old.detectors bytes true bytes (Refused kind)
place_end_refused rules old bytes line part seen kind p all some e =
    let cut = end_cut rules old bytes line part seen p all in
    end_refused rules old.detectors (take line bytes) (part_of bytes line part) (part_of bytes part seen) old.named kind bytes true p.parts refl e cut (last_some bytes _ line cut some)

-- what the last part of the input comes to
pub place_end : (rules : PartRules) (old : RecordSoFar) (bytes : List ℕ) (line part seen : ℕ) (r : Result (Option (List ℕ)) (Stop Kind)) → IsPlace rules old bytes line part seen → seen ≡ length bytes → line < length bytes
    → IfOk r (λ found. rules.with_last old.detectors old.named (without_return (part_of bytes part seen)) ≡ Ok found) → IfOk r (λ found. IfSome found (IsShotOf old.detectors))
    → IfOk r (λ found. IfNone found (AnswersParts rules old.detectors bytes true bytes End))
    × IfOk r (λ found. IfSome found (λ shot. IsShotOf old.detectors shot × AnswersParts rules old.detectors bytes true [] (Shot shot)))
place_end rules old bytes line part seen (Ok None) p all some e shot =
    let cut = end_cut rules old bytes line part seen p all in
    (end_nothing rules old.detectors (take line bytes) (part_of bytes line part) (part_of bytes part seen) old.named bytes true p.parts refl e cut (last_some bytes _ line cut some), tt)
place_end rules old bytes line part seen (Ok (Some found)) p all some e shot =
    let cut = end_cut rules old bytes line part seen p all in
    (tt, (shot, end_shot rules old.detectors (take line bytes) (part_of bytes line part) (part_of bytes part seen) old.named found bytes true p.parts refl e cut (last_some bytes _ line cut some)))
place_end rules old bytes line part seen (Err stop) p all some e shot = (tt, tt)

pub place_end_stop : (rules : PartRules) (old : RecordSoFar) (bytes : List ℕ) (line part seen : ℕ) (r : Result (Option (List ℕ)) (Stop Kind)) → IsPlace rules old bytes line part seen → seen ≡ length bytes → line < length bytes
    → IfErr r (IfRefused (λ kind. rules.with_last old.detectors old.named (without_return (part_of bytes part seen)) ≡ Err kind))
    → IfErr r (IfRefused (λ kind. AnswersParts rules old.detectors bytes true bytes (Refused kind)))
place_end_stop rules old bytes line part seen (Ok found) p all some e = tt
place_end_stop rules old bytes line part seen (Err stop) p all some e =
    refused_then (λ kind. rules.with_last old.detectors old.named (without_return (part_of bytes part seen)) ≡ Err kind)
    (λ kind. AnswersParts rules old.detectors bytes true bytes (Refused kind)) stop (λ kind h. place_end_refused rules old bytes line part seen kind p all some h) e
