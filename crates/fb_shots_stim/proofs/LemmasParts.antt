-- The parts of a line, and where a reader of them has come.
use Rattle.std.proofs.Common.{◌≡◌, ℕ, false, eqb, List, [], ◌∷◌, ◌++◌, Option, None, Result, Ok, Err, refl, sym, ap, subst, ◌∙◌, inl, inr}
use Rattle.std.proofs.lemmas.Bool.{cases_Bool, or_parts, eqb-true}
use Rattle.fb_shots_stim.specs.declared.answer.Kind.{Kind}
use Rattle.fb_records.specs.Records.{refused, Records}
use Rattle.fb_records.specs.Lines.{holds, whole_parts, last_part, without_return, bare, Stays}
use Rattle.fb_shots_stim.specs.NamedDetectors.{ending_of}
use Rattle.fb_shots_stim.specs.InternalParts.{PartRules, with_parts, with_last_part, ended_parts, line_by_parts, begun_by_parts, records_by_parts, prefix_by_parts, is_skipped, after_by_parts, IsAt}
use Rattle.fb_records.proofs.LineLemmas.{whole_parts_none, whole_parts_one, last_part_none, last_part_one, parts_of, holds_none}
use Rattle.fb_records.proofs.RecordLemmas.{stays_bare}
use Rattle.fb_records.proofs.AnswerLemmas.{skips_nothing, skips_line, blank_after}

abbrev pub Parts : Type 0
Parts = Result (Option (List ℕ)) Kind

-- ---- parts of two pieces

parts_append : (rules : PartRules) (n : ℕ) (r : Parts) (a b : List (List ℕ)) → with_parts rules n r (a ++ b) ≡ with_parts rules n (with_parts rules n r a) b
parts_append rules n (Err kind) a b = refl
parts_append rules n (Ok so_far) [] b = refl
parts_append rules n (Ok so_far) (part ∷ a) b = parts_append rules n (rules.with_part n so_far part) a b

parts_none : (rules : PartRules) (n : ℕ) (r : Parts) → with_parts rules n r [] ≡ r
parts_none rules n (Err kind) = refl
parts_none rules n (Ok so_far) = refl

ended_two : (rules : PartRules) (n : ℕ) (a b : List ℕ)
    → ended_parts rules n (a ++ b) ≡ with_parts rules n (ended_parts rules n a) (whole_parts rules.separator (last_part rules.separator a ++ b))
ended_two rules n a b =
    let s = rules.separator in
    ap (with_parts rules n (Ok None)) (parts_of s a b).whole
    ∙ parts_append rules n (Ok None) (whole_parts s a) (whole_parts s (last_part s a ++ b))

line_two : (rules : PartRules) (n : ℕ) (a b : List ℕ)
    → line_by_parts rules n (a ++ b)
    ≡ with_last_part rules n (with_parts rules n (ended_parts rules n a) (whole_parts rules.separator (last_part rules.separator a ++ b))) (last_part rules.separator (last_part rules.separator a ++ b))
line_two rules n a b =
    let s = rules.separator in
    ap (λ (r : Parts). with_last_part rules n r (last_part s (a ++ b))) (ended_two rules n a b)
    ∙ ap (with_last_part rules n (with_parts rules n (ended_parts rules n a) (whole_parts s (last_part s a ++ b)))) (parts_of s a b).last

ending_refused : (r : Parts) (kind : Kind) → ending_of r ≡ refused kind → r ≡ Err kind
ending_refused (Ok so_far) kind e = absurd cc
ending_refused (Err k) kind e = let same : k ≡ kind = cc in ap (λ (x : Kind). Err x) same

pub stays_parts : (rules : PartRules) (n : ℕ) → Stays (bare (line_by_parts rules n)) (bare (begun_by_parts rules n))
stays_parts rules n = stays_bare (line_by_parts rules n) (begun_by_parts rules n) (record {
  nothing = refl;
  line = λ part more kind e.
      let s = rules.separator in
      let left = last_part s part ++ more in
      line_two rules n part more
      ∙ ap (λ (r : Parts). with_last_part rules n (with_parts rules n r (whole_parts s left)) (last_part s left)) (ending_refused (ended_parts rules n part) kind e);
  part = λ part more kind e.
      ap ending_of (ended_two rules n part more)
      ∙ ap (λ (r : Parts). ending_of (with_parts rules n r (whole_parts rules.separator (last_part rules.separator part ++ more)))) (ending_refused (ended_parts rules n part) kind e);
})

-- ---- a line whose parts before the last have ended

line_end : (rules : PartRules) (n : ℕ) (line part : List ℕ) → last_part rules.separator line ≡ [] → holds rules.separator part ≡ false
    → line_by_parts rules n (line ++ part) ≡ with_last_part rules n (ended_parts rules n line) part
line_end rules n line part ended h =
    let s = rules.separator in
    let r = ended_parts rules n line in
    line_two rules n line part
    ∙ ap (λ (l : List ℕ). with_last_part rules n (with_parts rules n r (whole_parts s (l ++ part))) (last_part s (l ++ part))) ended
    ∙ ap (λ (ps : List (List ℕ)). with_last_part rules n (with_parts rules n r ps) (last_part s part)) (whole_parts_none s part h)
    ∙ ap (λ (q : Parts). with_last_part rules n q (last_part s part)) (parts_none rules n r)
    ∙ ap (with_last_part rules n r) (last_part_none s part h)

pub ended_end : (rules : PartRules) (n : ℕ) (line part : List ℕ) → last_part rules.separator line ≡ [] → holds rules.separator part ≡ false
    → ended_parts rules n (line ++ part) ≡ ended_parts rules n line
ended_end rules n line part ended h =
    let s = rules.separator in
    let r = ended_parts rules n line in
    ended_two rules n line part
    ∙ ap (λ (l : List ℕ). with_parts rules n r (whole_parts s (l ++ part))) ended
    ∙ ap (with_parts rules n r) (whole_parts_none s part h)
    ∙ parts_none rules n r

pub ended_more : (rules : PartRules) (n : ℕ) (line part : List ℕ) → last_part rules.separator line ≡ [] → holds rules.separator part ≡ false
    → ended_parts rules n (line ++ (part ++ rules.separator ∷ [])) ≡ with_parts rules n (ended_parts rules n line) (part ∷ [])
ended_more rules n line part ended h =
    let s = rules.separator in
    let r = ended_parts rules n line in
    ended_two rules n line (part ++ s ∷ [])
    ∙ ap (λ (l : List ℕ). with_parts rules n r (whole_parts s (l ++ (part ++ s ∷ [])))) ended
    ∙ ap (with_parts rules n r) (whole_parts_one s part [] h)

pub last_more : (s : ℕ) (line part : List ℕ) → last_part s line ≡ [] → last_part s (line ++ (part ++ s ∷ [])) ≡ []
last_more s line part ended =
    (parts_of s line (part ++ s ∷ [])).last
    ∙ ap (λ (l : List ℕ). last_part s (l ++ (part ++ s ∷ []))) ended
    ∙ last_part_one s part []

-- a line that ends by a separator, or is empty, has its carriage returns
pub return_stays : (s : ℕ) (line part : List ℕ) → eqb s 13 ≡ false → last_part s line ≡ [] → without_return (line ++ part) ≡ line ++ without_return part
return_stays s [] part other ended = refl
return_stays s (x ∷ []) part other ended = elim (cases_Bool (eqb x s)) [
  | inl e ↦ let x-is : s ≡ x = sym (eqb-true x s e) in subst (λ (y : ℕ). without_return (y ∷ part) ≡ y ∷ without_return part) x-is (behind s part other)
  | inr e ↦ absurd (let kept : last_part s (x ∷ []) ≡ x ∷ [] = rw e refl in cc)
]
  where
    behind : (s : ℕ) (part : List ℕ) → eqb s 13 ≡ false → without_return (s ∷ part) ≡ s ∷ without_return part
    behind s [] other = rw other refl
    behind s (y ∷ part) other = refl
return_stays s (x ∷ y ∷ line) part other ended =
    ap (λ (l : List ℕ). x ∷ l) (return_stays s (y ∷ line) part other (later s x (y ∷ line) ended))
  where
    later : (s x : ℕ) (rest : List ℕ) → last_part s (x ∷ rest) ≡ [] → last_part s rest ≡ []
    later s x rest e = elim (cases_Bool (holds s (x ∷ rest))) [
      | inl h ↦ let skip : last_part s (x ∷ rest) ≡ last_part s rest = rw h refl in sym skip ∙ e
      | inr h ↦ absurd (let kept : last_part s (x ∷ rest) ≡ x ∷ rest = rw h refl in cc)
    ]

pub return_holds : (s : ℕ) (part : List ℕ) → holds s part ≡ false → holds s (without_return part) ≡ false
return_holds s [] h = refl
return_holds s (x ∷ []) h = elim (cases_Bool (eqb x 13)) [
  | inl e ↦ rw e refl
  | inr e ↦ rw e h
]
return_holds s (x ∷ y ∷ part) h =
    let o = or_parts (eqb x s) (holds s (y ∷ part)) h in
    rw (o.0) (return_holds s (y ∷ part) o.1)

-- ---- where a reader stands

pub at_start : (rules : PartRules) (n : ℕ) → eqb rules.separator 10 ≡ false → eqb rules.separator 13 ≡ false → IsAt rules n [] [] [] None
at_start rules n in_lines no_return = record {
  in_lines = in_lines;
  no_return = no_return;
  skips = skips_nothing (records_by_parts rules n) (prefix_by_parts rules n) (after_by_parts rules n);
  one_line = refl;
  ended = refl;
  read = refl;
  in_line = refl;
  in_part = refl;
}

-- what the line is with the last part
pub whole_line : (rules : PartRules) (n : ℕ) (skipped line part : List ℕ) (so_far : Option (List ℕ)) → IsAt rules n skipped line part so_far
    → line_by_parts rules n (without_return (line ++ part)) ≡ rules.with_last n so_far (without_return part)
whole_line rules n skipped line part so_far at =
    ap (line_by_parts rules n) (return_stays rules.separator line part at.no_return at.ended)
    ∙ line_end rules n line (without_return part) at.ended (return_holds rules.separator part at.in_part)
    ∙ ap (λ (r : Parts). with_last_part rules n r (without_return part)) at.read

pub one_line_of : (rules : PartRules) (n : ℕ) (skipped line part : List ℕ) (so_far : Option (List ℕ)) → IsAt rules n skipped line part so_far → holds 10 (line ++ part) ≡ false
one_line_of rules n skipped line part so_far at = holds_none 10 line part at.one_line at.in_line

-- more bytes of the part
pub at_more : (rules : PartRules) (n : ℕ) (skipped line part more : List ℕ) (so_far : Option (List ℕ)) → IsAt rules n skipped line part so_far → holds 10 more ≡ false → holds rules.separator more ≡ false
    → IsAt rules n skipped line (part ++ more) so_far
at_more rules n skipped line part more so_far at in_line in_part = record {
  in_lines = at.in_lines;
  no_return = at.no_return;
  skips = at.skips;
  one_line = at.one_line;
  ended = at.ended;
  read = at.read;
  in_line = holds_none 10 part more at.in_line in_line;
  in_part = holds_none rules.separator part more at.in_part in_part;
}

pub line_more : (rules : PartRules) (n : ℕ) (skipped line part : List ℕ) (so_far : Option (List ℕ)) → IsAt rules n skipped line part so_far → holds 10 (line ++ (part ++ rules.separator ∷ [])) ≡ false
line_more rules n skipped line part so_far at =
    let none : holds 10 (rules.separator ∷ []) ≡ false = rw at.in_lines refl in
    holds_none 10 line (part ++ rules.separator ∷ []) at.one_line (holds_none 10 part (rules.separator ∷ []) at.in_line none)

-- a separator after the part
pub at_part : (rules : PartRules) (n : ℕ) (skipped line part : List ℕ) (so_far now : Option (List ℕ)) → IsAt rules n skipped line part so_far → rules.with_part n so_far part ≡ Ok now
    → IsAt rules n skipped (line ++ (part ++ rules.separator ∷ [])) [] now
at_part rules n skipped line part so_far now at e = record {
  in_lines = at.in_lines;
  no_return = at.no_return;
  skips = at.skips;
  one_line = line_more rules n skipped line part so_far at;
  ended = last_more rules.separator line part at.ended;
  read = ended_more rules n line part at.ended at.in_part
      ∙ ap (λ (r : Parts). with_parts rules n r (part ∷ [])) at.read ∙ ap (λ (r : Parts). with_parts rules n r []) e;
  in_line = refl;
  in_part = refl;
}

-- a newline after a line that is skipped
pub at_newline : (rules : PartRules) (n : ℕ) (skipped line part : List ℕ) (so_far : Option (List ℕ)) → IsAt rules n skipped line part so_far → rules.with_last n so_far (without_return part) ≡ Ok None
    → IsAt rules n (skipped ++ (line ++ part) ++ 10 ∷ []) [] [] None
at_newline rules n skipped line part so_far at e =
    let h = one_line_of rules n skipped line part so_far at in
    let given : line_by_parts rules n (without_return (line ++ part)) ≡ Ok None = whole_line rules n skipped line part so_far at ∙ e in
    record {
      in_lines = at.in_lines;
      no_return = at.no_return;
      skips = skips_line (bare (line_by_parts rules n)) (bare (begun_by_parts rules n)) (after_by_parts rules n) skipped (line ++ part) at.skips h given
          (λ more. blank_after (bare (λ l. is_skipped (line_by_parts rules n l))) (line ++ part) more h (ap is_skipped given));
      one_line = refl;
      ended = refl;
      read = refl;
      in_line = refl;
      in_part = refl;
    }

-- ---- a format of lines of parts

-- what is said of lines of parts is said of a format that they are
pub retold : (rules : PartRules) (records prefix : ℕ → List ℕ → Records (List ℕ) Kind) (after : ℕ → List ℕ → List ℕ) → records_by_parts rules ≡ records → prefix_by_parts rules ≡ prefix → after_by_parts rules ≡ after
    → (P : (ℕ → List ℕ → Records (List ℕ) Kind) → (ℕ → List ℕ → Records (List ℕ) Kind) → (ℕ → List ℕ → List ℕ) → Type 0)
    → P (records_by_parts rules) (prefix_by_parts rules) (after_by_parts rules) → P records prefix after
retold rules records prefix after r p a P h =
    subst (P records prefix) a (subst (λ (q : ℕ → List ℕ → Records (List ℕ) Kind). P records q (after_by_parts rules)) p
    (subst (λ (q : ℕ → List ℕ → Records (List ℕ) Kind). P q (prefix_by_parts rules) (after_by_parts rules)) r h))
