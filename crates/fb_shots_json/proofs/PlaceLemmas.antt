-- A reader of JSON lines at a place.
use Rattle.std.proofs.Common.{◌≡◌, ℕ, ◌+◌, ◌<◌, ◌≤◌, Bool, true, false, ◌&&◌, List, [], ◌∷◌, ◌++◌, length, get_or, take, drop, Ok, Err, refl, sym, ap, subst, ◌∙◌, append_assoc, inl, inr, arith}
use Rattle.std.proofs.lemmas.Bool.{cases_lt}
use Rattle.std.proofs.lemmas.List.{append-nil, take-append-drop, drop_all, drop_more}
use Rattle.std.proofs.lemmas.List.Folds.{list_all-append}
use Rattle.fb_graph.specs.Limits.{DecodingGraph, ShotValue}
use Rattle.fb_shots_json.specs.declared.answer.Kind.{Kind}
use Rattle.fb_shots_json.specs.declared.answer.Kind.TheVariants.{LineTooLong}
use Rattle.fb_records.specs.declared.answer.Next.TheVariants.{Shot, NotYet, End, Refused}
use Rattle.fb_records.specs.Lines.{holds}
use Rattle.fb_records.specs.Steps.{part_of}
use Rattle.fb_shots_json.specs.TextJson.{is_blank, is_blank_byte, is_too_long, shot_of_line}
use Rattle.fb_shots_json.specs.InternalPlaces.{IsAt, IsPlace}
use Rattle.fb_shots_json.specs.InternalAnswers.{AnswersJson}
use Rattle.fb_records.proofs.PartLemmas.{part_none, part_two, take_part, part_more}
use Rattle.fb_shots_json.proofs.TextLemmas as text

-- ---- places

pub place_start : (g : DecodingGraph) (bytes : List ℕ) → IsPlace g bytes 0 0 true
place_start g bytes = record { order = omega arith; within = omega arith; parts = text.at_start g; blank_so_far = refl }

pub place_seen : (g : DecodingGraph) (bytes : List ℕ) (line same seen on : ℕ) (blank still : Bool) → IsPlace g bytes line seen blank → same ≡ line → seen ≤ on → on ≤ length bytes
    → holds 10 (part_of bytes seen on) ≡ false → still ≡ (blank && is_blank (part_of bytes seen on)) → IsPlace g bytes same on still
place_seen g bytes line same seen on blank still p here le within h e =
    let order = p.order in
    let two = part_two bytes line seen on order le in
    subst (λ (start : ℕ). IsPlace g bytes start on still) (sym here)
    (record {
      order = omega arith;
      within = within;
      parts = subst (λ (l : List ℕ). IsAt g (take line bytes) l) (sym two) (text.at_more g (take line bytes) (part_of bytes line seen) (part_of bytes seen on) p.parts h);
      blank_so_far = e ∙ ap (λ (b : Bool). b && is_blank (part_of bytes seen on)) p.blank_so_far ∙ sym (list_all-append is_blank_byte (part_of bytes line seen) (part_of bytes seen on)) ∙ ap is_blank (sym two);
    })

pub place_known : (g : DecodingGraph) (bytes : List ℕ) (line seen : ℕ) (blank known : Bool) → IsPlace g bytes line seen blank → blank ≡ known → IsPlace g bytes line seen known
place_known g bytes line seen blank known p e = subst (λ (b : Bool). IsPlace g bytes line seen b) e p

-- the bytes, by the place
place_cut : (g : DecodingGraph) (bytes : List ℕ) (line seen : ℕ) (blank : Bool) → IsPlace g bytes line seen blank → bytes ≡ take line bytes ++ (part_of bytes line seen ++ drop seen bytes)
place_cut g bytes line seen blank p =
    sym (take-append-drop seen bytes)
    ∙ ap (λ (l : List ℕ). l ++ drop seen bytes) (take_part bytes line seen p.order)
    ∙ append_assoc (take line bytes) (part_of bytes line seen) (drop seen bytes)

newline_cut : (g : DecodingGraph) (bytes : List ℕ) (line seen : ℕ) (blank : Bool) → IsPlace g bytes line seen blank → seen < length bytes → get_or bytes seen 0 ≡ 10
    → bytes ≡ take line bytes ++ (part_of bytes line seen ++ 10 ∷ drop (seen + 1) bytes)
newline_cut g bytes line seen blank p lt newline =
    let tail : drop seen bytes ≡ 10 ∷ drop (seen + 1) bytes = drop_more bytes seen 0 lt ∙ ap (λ (b : ℕ). b ∷ drop (seen + 1) bytes) newline in
    place_cut g bytes line seen blank p ∙ ap (λ (l : List ℕ). take line bytes ++ (part_of bytes line seen ++ l)) tail

end_cut : (g : DecodingGraph) (bytes : List ℕ) (line seen : ℕ) (blank : Bool) → IsPlace g bytes line seen blank → seen ≡ length bytes → bytes ≡ take line bytes ++ part_of bytes line seen
end_cut g bytes line seen blank p all =
    place_cut g bytes line seen blank p
    ∙ ap (λ (l : List ℕ). take line bytes ++ (part_of bytes line seen ++ l)) (drop_all seen bytes (omega arith))
    ∙ ap (λ (l : List ℕ). take line bytes ++ l) (append-nil (part_of bytes line seen))

-- ---- a newline

pub place_newline : (g : DecodingGraph) (bytes : List ℕ) (line seen : ℕ) → IsPlace g bytes line seen true → seen < length bytes → get_or bytes seen 0 ≡ 10
    → IsPlace g bytes (seen + 1) (seen + 1) true
place_newline g bytes line seen p lt newline =
    let order = p.order in
    let longer : take (seen + 1) bytes ≡ take line bytes ++ part_of bytes line seen ++ 10 ∷ [] =
    take_part bytes line (seen + 1) (omega arith)
    ∙ ap (λ (l : List ℕ). take line bytes ++ l) (part_more bytes line seen order lt ∙ ap (λ (b : ℕ). part_of bytes line seen ++ b ∷ []) newline)
    ∙ sym (append_assoc (take line bytes) (part_of bytes line seen) (10 ∷ [])) in
    record {
      order = omega arith;
      within = omega arith;
      parts = subst (λ (l : List ℕ). IsAt g (take (seen + 1) bytes) l) (sym (part_none bytes (seen + 1)))
          (subst (λ (l : List ℕ). IsAt g l []) (sym longer) (text.at_newline g (take line bytes) (part_of bytes line seen) p.parts (sym p.blank_so_far)));
      blank_so_far = sym (ap is_blank (part_none bytes (seen + 1)));
    }

-- ---- answers

pub place_shot : (g : DecodingGraph) (bytes : List ℕ) (line seen : ℕ) (finished : Bool) (shot : ShotValue) → IsPlace g bytes line seen false → seen < length bytes → get_or bytes seen 0 ≡ 10
    → shot_of_line g (part_of bytes line seen) ≡ Ok shot → AnswersJson g bytes finished (drop (seen + 1) bytes) (Shot shot)
place_shot g bytes line seen finished shot p lt newline e =
    text.newline_shot g (take line bytes) (part_of bytes line seen) (drop (seen + 1) bytes) shot bytes finished p.parts (sym p.blank_so_far) e (newline_cut g bytes line seen false p lt newline)

pub place_last_shot : (g : DecodingGraph) (bytes : List ℕ) (line seen : ℕ) (finished : Bool) (shot : ShotValue) → IsPlace g bytes line seen false → seen ≡ length bytes → finished ≡ true
    → shot_of_line g (part_of bytes line seen) ≡ Ok shot → AnswersJson g bytes finished (drop seen bytes) (Shot shot)
place_last_shot g bytes line seen finished shot p all done e =
    subst (λ (l : List ℕ). AnswersJson g bytes finished l (Shot shot)) (sym (drop_all seen bytes (omega arith)))
    (text.end_shot g (take line bytes) (part_of bytes line seen) shot bytes finished p.parts done (sym p.blank_so_far) e (end_cut g bytes line seen false p all))

pub place_refused : (g : DecodingGraph) (bytes : List ℕ) (line seen : ℕ) (finished : Bool) (kind : Kind) → IsPlace g bytes line seen false → (seen < length bytes → get_or bytes seen 0 ≡ 10) → (seen ≡ length bytes → finished ≡ true)
    → shot_of_line g (part_of bytes line seen) ≡ Err kind → AnswersJson g bytes finished bytes (Refused kind)
place_refused g bytes line seen finished kind p newline done e = elim (cases_lt seen (length bytes)) [
  | inl lt ↦ text.newline_refused g (take line bytes) (part_of bytes line seen) (drop (seen + 1) bytes) kind bytes finished p.parts (sym p.blank_so_far) e (newline_cut g bytes line seen false p lt (newline lt))
  | inr ge ↦
      let within = p.within in
      let all : seen ≡ length bytes = omega arith in
      text.end_refused g (take line bytes) (part_of bytes line seen) kind bytes finished p.parts (done all) (sym p.blank_so_far) e (end_cut g bytes line seen false p all)
]

pub place_long : (g : DecodingGraph) (bytes : List ℕ) (line seen : ℕ) (finished : Bool) → IsPlace g bytes line seen false → seen ≡ length bytes → is_too_long (part_of bytes line seen) ≡ true
    → AnswersJson g bytes finished bytes (Refused LineTooLong)
place_long g bytes line seen finished p all long =
    text.open_refused g (take line bytes) (part_of bytes line seen) bytes finished p.parts (sym p.blank_so_far) long (end_cut g bytes line seen false p all)

pub place_open_blank : (g : DecodingGraph) (bytes : List ℕ) (line seen : ℕ) (finished : Bool) → IsPlace g bytes line seen true → seen ≡ length bytes → finished ≡ false → AnswersJson g bytes finished bytes NotYet
place_open_blank g bytes line seen finished p all e =
    text.open_blank g (take line bytes) (part_of bytes line seen) bytes finished p.parts e (sym p.blank_so_far) (end_cut g bytes line seen true p all)

pub place_open_short : (g : DecodingGraph) (bytes : List ℕ) (line seen : ℕ) (blank finished : Bool) → IsPlace g bytes line seen blank → seen ≡ length bytes → finished ≡ false → is_too_long (part_of bytes line seen) ≡ false
    → AnswersJson g bytes finished bytes NotYet
place_open_short g bytes line seen blank finished p all e short =
    text.open_short g (take line bytes) (part_of bytes line seen) bytes finished p.parts e short (end_cut g bytes line seen blank p all)

pub place_end : (g : DecodingGraph) (bytes : List ℕ) (line seen : ℕ) (finished : Bool) → IsPlace g bytes line seen true → seen ≡ length bytes → finished ≡ true → AnswersJson g bytes finished bytes End
place_end g bytes line seen finished p all done =
    text.end_nothing g (take line bytes) (part_of bytes line seen) bytes finished p.parts done (sym p.blank_so_far) (end_cut g bytes line seen true p all)
