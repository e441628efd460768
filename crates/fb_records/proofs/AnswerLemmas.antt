-- What a reader answers: by what is read, behind what is skipped, and at the end of a line and of the input.
use Rattle.std.specs.Prelude.{if◌then◌else◌, IfErr}
use Rattle.std.proofs.Common.{◌≡◌, ℕ, suc, ◌+◌, Bool, true, false, List, [], ◌∷◌, ◌++◌, length, Some, None, Result, Ok, Err, refl, sym, ap, ◌∙◌, append_assoc, arith}
use Rattle.std.specs.List.{prefix_len}
use Rattle.std.proofs.lemmas.List.{append-nil, length-append}
use Rattle.fb_records.specs.declared.answer.Stop.{Stop}
use Rattle.fb_records.specs.declared.answer.Stop.TheVariants as stop
use Rattle.fb_records.specs.Records.{at_end, refused, Records, only, with_first_shot, Judged, with_line, Reader}
use Rattle.fb_records.specs.Lines.{holds, lines_of, after_lines, after_first, records_by_lines, prefix_by_lines, Stays}
use Rattle.fb_records.specs.Answers.{Gives, Refuses}
use Rattle.fb_records.specs.Steps.{IfRefused, Skips}
use Rattle.fb_records.proofs.LineLemmas.{whole_parts_none, last_part_none, whole_parts_one, last_part_one, after_line_one, after_line_none}
use Rattle.fb_records.proofs.RecordLemmas.{Judge, Begun, records_one, prefix_one, records_none, records_go_on}

-- ---- what is skipped first

pub skips_nothing : {A K : Type 0} (records prefix : List ℕ → Records A K) (after : List ℕ → List ℕ) → Skips records prefix after []
skips_nothing records prefix after = record { whole = λ more. refl; so_far = λ more. refl; left = λ more. refl }

skipped_line : (skipped line more : List ℕ) → (skipped ++ line ++ 10 ∷ []) ++ more ≡ skipped ++ (line ++ 10 ∷ more)
skipped_line skipped line more = append_assoc (skipped ++ line) (10 ∷ []) more ∙ append_assoc skipped line (10 ∷ more)

-- a newline after a line that is skipped
pub skips_line : {A K : Type 0} (judge : Judge A K) (begun : Begun K) (after : List ℕ → List ℕ) (skipped line : List ℕ) → Skips (records_by_lines judge) (prefix_by_lines judge begun) after skipped → holds 10 line ≡ false
    → judge line ≡ Ok None → ((more : List ℕ) → after (line ++ 10 ∷ more) ≡ after more) → Skips (records_by_lines judge) (prefix_by_lines judge begun) after (skipped ++ line ++ 10 ∷ [])
skips_line {A} {K} judge begun after skipped line skips h given blank = record {
  whole = λ more. ap (records_by_lines judge) (skipped_line skipped line more) ∙ skips.whole (line ++ 10 ∷ more) ∙ records_one judge line more h
      ∙ ap (λ (r : Judged A K). with_line r (records_by_lines judge more)) given;
  so_far = λ more. ap (prefix_by_lines judge begun) (skipped_line skipped line more) ∙ skips.so_far (line ++ 10 ∷ more) ∙ prefix_one judge begun line more h
      ∙ ap (λ (r : Judged A K). with_line r (prefix_by_lines judge begun more)) given;
  left = λ more. ap after (skipped_line skipped line more) ∙ skips.left (line ++ 10 ∷ more) ∙ blank more;
}

pub skip_gives : {A K C : Type 0} (records prefix : List ℕ → Records A K) (after : List ℕ → List ℕ) (skipped rest : List ℕ) (old new : Reader C) (shot : A) → Skips records prefix after skipped → old.rest ≡ skipped ++ rest
    → Gives records prefix (record old { rest = rest }) new shot → Gives records prefix old new shot
skip_gives records prefix after skipped rest old new shot skips cut given = record {
  shorter = (let less = given.shorter in omega (arith, ap length cut, length-append skipped rest));
  now = ap records cut ∙ skips.whole rest ∙ given.now;
  so_far = λ open_. ap prefix cut ∙ skips.so_far rest ∙ given.so_far open_;
  later = λ open_ more. ap (λ (l : List ℕ). records (l ++ more)) cut ∙ ap records (append_assoc skipped rest more) ∙ skips.whole (rest ++ more) ∙ given.later open_ more;
  onward = λ open_ more. ap (λ (l : List ℕ). prefix (l ++ more)) cut ∙ ap prefix (append_assoc skipped rest more) ∙ skips.so_far (rest ++ more) ∙ given.onward open_ more;
}

pub skip_refuses : {A K C : Type 0} (records prefix : List ℕ → Records A K) (after : List ℕ → List ℕ) (skipped rest : List ℕ) (old : Reader C) (kind : K) → Skips records prefix after skipped → old.rest ≡ skipped ++ rest
    → Refuses records prefix (record old { rest = rest }) kind → Refuses records prefix old kind
skip_refuses records prefix after skipped rest old kind skips cut given = record {
  now = ap records cut ∙ skips.whole rest ∙ given.now;
  so_far = λ open_. ap prefix cut ∙ skips.so_far rest ∙ given.so_far open_;
  later = λ open_ more. ap (λ (l : List ℕ). records (l ++ more)) cut ∙ ap records (append_assoc skipped rest more) ∙ skips.whole (rest ++ more) ∙ given.later open_ more;
}

-- ---- lines

false_true : (b : Bool) → b ≡ true → b ≡ false → ⊥
false_true b t f = cc

-- what may go on and is refused already is refused of all
pub refuses_prefix : {A K C : Type 0} (judge : Judge A K) (begun : Begun K) → Stays judge begun → (r : Reader C) (kind : K) → prefix_by_lines judge begun r.rest ≡ only (refused kind) → Refuses (records_by_lines judge) (prefix_by_lines judge begun) r kind
refuses_prefix {A} {K} judge begun stays r kind e =
    let go = λ (more : List ℕ). (records_go_on judge begun stays r.rest more).judged kind (ap (λ (x : Records A K). x.ending) e) ∙ e in
    record {
      now = ap (records_by_lines judge) (sym (append-nil r.rest)) ∙ go [];
      so_far = λ _. e;
      later = λ _ more. go more;
    }

pub refuses_last : {A K C : Type 0} (judge : Judge A K) (begun : Begun K) (r : Reader C) (kind : K) → r.finished ≡ true → records_by_lines judge r.rest ≡ only (refused kind) → Refuses (records_by_lines judge) (prefix_by_lines judge begun) r kind
refuses_last judge begun r kind done e = record {
  now = e;
  so_far = λ f. absurd (false_true r.finished done f);
  later = λ f. absurd (false_true r.finished done f);
}

-- a line that has its newline and is a shot
pub gives_line : {A K C : Type 0} (judge : Judge A K) (begun : Begun K) (old new : Reader C) (line : List ℕ) (shot : A) → old.rest ≡ line ++ 10 ∷ new.rest → holds 10 line ≡ false → judge line ≡ Ok (Some shot) → Gives (records_by_lines judge) (prefix_by_lines judge begun) old new shot
gives_line {A} {K} judge begun old new line shot cut h j =
    let is_shot = λ (r : Records A K). ap (λ (given : Judged A K). with_line given r) j in
    record {
      shorter = omega (arith, ap length cut, length-append line (10 ∷ new.rest));
      now = ap (records_by_lines judge) cut ∙ records_one judge line new.rest h ∙ is_shot (records_by_lines judge new.rest);
      so_far = λ _. ap (prefix_by_lines judge begun) cut ∙ prefix_one judge begun line new.rest h ∙ is_shot (prefix_by_lines judge begun new.rest);
      later = λ _ more. ap (λ (l : List ℕ). records_by_lines judge (l ++ more)) cut
          ∙ ap (records_by_lines judge) (append_assoc line (10 ∷ new.rest) more)
          ∙ records_one judge line (new.rest ++ more) h ∙ is_shot (records_by_lines judge (new.rest ++ more));
      onward = λ _ more. ap (λ (l : List ℕ). prefix_by_lines judge begun (l ++ more)) cut
          ∙ ap (prefix_by_lines judge begun) (append_assoc line (10 ∷ new.rest) more)
          ∙ prefix_one judge begun line (new.rest ++ more) h ∙ is_shot (prefix_by_lines judge begun (new.rest ++ more));
    }

-- the last line of a whole input, which is a shot
pub gives_last : {A K C : Type 0} (judge : Judge A K) (begun : Begun K) (old new : Reader C) (b : ℕ) (line : List ℕ) (shot : A) → old.finished ≡ true → old.rest ≡ b ∷ line → new.rest ≡ [] → holds 10 (b ∷ line) ≡ false → judge (b ∷ line) ≡ Ok (Some shot) → Gives (records_by_lines judge) (prefix_by_lines judge begun) old new shot
gives_last {A} {K} judge begun old new b line shot done old-is new-is h j = record {
  shorter = omega (arith, ap length old-is, ap length new-is);
  now = ap (records_by_lines judge) old-is ∙ records_none judge b line h
      ∙ ap (λ (given : Judged A K). with_line given (only at_end)) j
      ∙ ap (λ (l : List ℕ). with_first_shot shot (records_by_lines judge l)) (sym new-is);
  so_far = λ f. absurd (false_true old.finished done f);
  later = λ f. absurd (false_true old.finished done f);
  onward = λ f. absurd (false_true old.finished done f);
}

-- a whole input of one line, where no line at all is judged as an empty one
pub records_end : {A K : Type 0} (judge : Judge A K) (line : List ℕ) (given : Judged A K) → judge [] ≡ Ok None → holds 10 line ≡ false → judge line ≡ given → records_by_lines judge line ≡ with_line given (only at_end)
records_end {A} {K} judge [] given none h e = ap (λ (r : Judged A K). with_line r (only at_end)) (sym none ∙ e)
records_end {A} {K} judge (b ∷ line) given none h e = records_none judge b line h ∙ ap (λ (r : Judged A K). with_line r (only at_end)) e

-- ---- what stands after a line

lines_one : (line more : List ℕ) → holds 10 line ≡ false → lines_of (line ++ 10 ∷ more) ≡ line ∷ lines_of more
lines_one line more h = rw (whole_parts_one 10 line more h, last_part_one 10 line more) refl

pub blank_after : (is_blank : List ℕ → Bool) (line more : List ℕ) → holds 10 line ≡ false → is_blank line ≡ true → after_first is_blank (line ++ 10 ∷ more) ≡ after_first is_blank more
blank_after is_blank line more h blank =
    let count : prefix_len is_blank (line ∷ lines_of more) ≡ suc (prefix_len is_blank (lines_of more)) =
    ap (λ (b : Bool). if b then 1 + prefix_len is_blank (lines_of more) else 0) blank ∙ omega arith in
    ap (λ (ls : List (List ℕ)). after_lines (suc (prefix_len is_blank ls)) (line ++ 10 ∷ more)) (lines_one line more h)
    ∙ ap (λ (k : ℕ). after_lines (suc k) (line ++ 10 ∷ more)) count
    ∙ ap (λ (l : List ℕ). after_lines (suc (prefix_len is_blank (lines_of more))) l) (after_line_one line more h)

pub record_after : (is_blank : List ℕ → Bool) (line more : List ℕ) → holds 10 line ≡ false → is_blank line ≡ false → after_first is_blank (line ++ 10 ∷ more) ≡ more
record_after is_blank line more h some =
    let count : prefix_len is_blank (line ∷ lines_of more) ≡ 0 = ap (λ (b : Bool). if b then 1 + prefix_len is_blank (lines_of more) else 0) some in
    ap (λ (ls : List (List ℕ)). after_lines (suc (prefix_len is_blank ls)) (line ++ 10 ∷ more)) (lines_one line more h)
    ∙ ap (λ (k : ℕ). after_lines (suc k) (line ++ 10 ∷ more)) count
    ∙ after_line_one line more h

pub last_after : (is_blank : List ℕ → Bool) (b : ℕ) (line : List ℕ) → holds 10 (b ∷ line) ≡ false → is_blank (b ∷ line) ≡ false → after_first is_blank (b ∷ line) ≡ []
last_after is_blank b line h some =
    let lines : lines_of (b ∷ line) ≡ (b ∷ line) ∷ [] = rw (whole_parts_none 10 (b ∷ line) h, last_part_none 10 (b ∷ line) h) refl in
    let count : prefix_len is_blank ((b ∷ line) ∷ []) ≡ 0 = ap (λ (t : Bool). if t then 1 + 0 else 0) some in
    ap (λ (ls : List (List ℕ)). after_lines (suc (prefix_len is_blank ls)) (b ∷ line)) lines
    ∙ ap (λ (k : ℕ). after_lines (suc k) (b ∷ line)) count
    ∙ after_line_none (b ∷ line) h

-- ---- refusals

pub refused_then : {K : Type 0} (P Q : K → Type 0) (why : Stop K) → ((kind : K) → P kind → Q kind) → IfRefused P why → IfRefused Q why
refused_then P Q stop.NoMemory h r = tt
refused_then P Q (stop.Refused kind) h r = h kind r

-- the same, where `?` gives the reason again
pub refused_by : {A K : Type 0} (r : Result A (Stop K)) (why : Stop K) (P Q : K → Type 0) → ((kind : K) → P kind → Q kind)
    → r ≡ Err why → IfRefused P why → IfErr r (IfRefused Q)
refused_by r why P Q h e is = rw e (refused_then P Q why h is)
