-- What is read of an input whose records are lines: by its first line, and in two pieces.
use Rattle.std.proofs.Common.{◌≡◌, ℕ, false, List, [], ◌∷◌, ◌++◌, Some, None, Ok, Err, refl, sym, ap, subst, ◌∙◌, append_assoc}
use Rattle.fb_records.specs.Records.{Ending, at_end, still_open, refused, Records, only, with_first_shot, ending_as, Judged, with_line, go_down, GoesOn}
use Rattle.fb_records.specs.Lines.{holds, whole_parts, last_part, if_not_empty, without_return, bare, lines_of, records_by_lines, prefix_by_lines, Stays}
use Rattle.fb_records.proofs.LineLemmas.{whole_parts_none, last_part_none, whole_parts_one, last_part_one, without, within, splits, holds_none, parts_of, holds_last, without_return_append}

abbrev pub Judge : Type 0 → Type 0 → Type 0
Judge A K = List ℕ → Judged A K

abbrev pub Begun : Type 0 → Type 0
Begun K = List ℕ → Ending K

-- ---- endings

-- what is refused, said otherwise, was refused
pub ending_judged : {K L P : Type 0} (say : K → L) (ending : Ending K) (why : L) → ending_as say ending ≡ refused why → ((kind : K) → ending ≡ refused kind → P) → P
ending_judged say at_end why e h = absurd cc
ending_judged say still_open why e h = absurd cc
ending_judged say (refused kind) why e h = h kind refl

-- ---- the first line

pub records_one : {A K : Type 0} (judge : Judge A K) (line more : List ℕ) → holds 10 line ≡ false → records_by_lines judge (line ++ 10 ∷ more) ≡ with_line (judge line) (records_by_lines judge more)
records_one judge line more h = rw (whole_parts_one 10 line more h, last_part_one 10 line more) refl

pub prefix_one : {A K : Type 0} (judge : Judge A K) (begun : Begun K) (line more : List ℕ) → holds 10 line ≡ false → prefix_by_lines judge begun (line ++ 10 ∷ more) ≡ with_line (judge line) (prefix_by_lines judge begun more)
prefix_one judge begun line more h = rw (whole_parts_one 10 line more h, last_part_one 10 line more) refl

pub records_none : {A K : Type 0} (judge : Judge A K) (b : ℕ) (line : List ℕ) → holds 10 (b ∷ line) ≡ false → records_by_lines judge (b ∷ line) ≡ with_line (judge (b ∷ line)) (only at_end)
records_none judge b line h = rw (whole_parts_none 10 (b ∷ line) h, last_part_none 10 (b ∷ line) h) refl

pub prefix_none : {A K : Type 0} (judge : Judge A K) (begun : Begun K) (line : List ℕ) → holds 10 line ≡ false → prefix_by_lines judge begun line ≡ only (begun line)
prefix_none judge begun line h = rw (whole_parts_none 10 line h, last_part_none 10 line h) refl

-- ---- carriage returns

-- what stays of a line without its carriage return stays of the line
pub stays_bare : {A K : Type 0} (judge : Judge A K) (begun : Begun K) → Stays judge begun → Stays (bare judge) (bare begun)
stays_bare judge begun stays = record {
  nothing = stays.nothing;
  line = λ part more kind e. let long = without_return_append part more in ap judge long.1 ∙ stays.line (without_return part) long.0 kind e;
  part = λ part more kind e. let long = without_return_append part more in ap begun long.1 ∙ stays.part (without_return part) long.0 kind e;
}

-- ---- two pieces

pub go_down_goes_on : {A K : Type 0} (judge : Judge A K) (lines more : List (List ℕ)) (ending ended : Ending K) → ((kind : K) → ending ≡ refused kind → go_down judge more ended ≡ only (refused kind)) → GoesOn (go_down judge lines ending) (go_down judge (lines ++ more) ended)
go_down_goes_on judge [] more ending ended h = record {
  shots = ((go_down judge more ended).shots, refl);
  judged = λ kind e. h kind e ∙ ap only (sym e);
}
go_down_goes_on judge (line ∷ lines) more ending ended h = through (judge line) _ _ (go_down_goes_on judge lines more ending ended h) where
  through : {A K : Type 0} (given : Judged A K) (prefix all : Records A K) → GoesOn prefix all → GoesOn (with_line given prefix) (with_line given all)
  through {A = A} (Ok (Some shot)) prefix all g = record {
    shots = (g.shots.0, ap (λ (ss : List A). shot ∷ ss) g.shots.1);
    judged = λ kind e. ap (with_first_shot shot) (g.judged kind e);
  }
  through (Ok None) prefix all g = g
  through (Err kind) prefix all g = record { shots = ([], refl); judged = λ k e. refl }

-- what is judged in the line that may go on is refused of all
pub refused_part : {A K : Type 0} (judge : Judge A K) (begun : Begun K) → Stays judge begun → (part more : List ℕ) (kind : K) → holds 10 part ≡ false → begun part ≡ refused kind
    → (records_by_lines judge (part ++ more) ≡ only (refused kind)) × (prefix_by_lines judge begun (part ++ more) ≡ only (refused kind))
refused_part judge begun stays [] more kind h e = absurd (let n = stays.nothing in cc)
refused_part {A} {K} judge begun stays (b ∷ part) more kind h e = elim (splits 10 more) as (λ (m : List ℕ) _. (records_by_lines judge ((b ∷ part) ++ m) ≡ only (refused kind)) × (prefix_by_lines judge begun ((b ∷ part) ++ m) ≡ only (refused kind))) [
  | without m hm ↦
      let none = holds_none 10 (b ∷ part) m h hm in (
        records_none judge b (part ++ m) none ∙ ap (λ (r : Judged A K). with_line r (only at_end)) (stays.line (b ∷ part) m kind e),
        prefix_none judge begun ((b ∷ part) ++ m) none ∙ ap only (stays.part (b ∷ part) m kind e),
      )
  | within f m hf ↦
      let none = holds_none 10 (b ∷ part) f h hf in
      let regroup : (b ∷ part) ++ (f ++ 10 ∷ m) ≡ ((b ∷ part) ++ f) ++ 10 ∷ m = sym (append_assoc (b ∷ part) f (10 ∷ m)) in
      let judged : judge ((b ∷ part) ++ f) ≡ Err kind = stays.line (b ∷ part) f kind e in (
        ap (records_by_lines judge) regroup ∙ records_one judge ((b ∷ part) ++ f) m none ∙ ap (λ (r : Judged A K). with_line r (records_by_lines judge m)) judged,
        ap (prefix_by_lines judge begun) regroup ∙ prefix_one judge begun ((b ∷ part) ++ f) m none ∙ ap (λ (r : Judged A K). with_line r (prefix_by_lines judge begun m)) judged,
      )
]

lines_of_two : (a b : List ℕ) → lines_of (a ++ b) ≡ whole_parts 10 a ++ lines_of (last_part 10 a ++ b)
lines_of_two a b =
    let p = parts_of 10 a b in
    ap (λ (ls : List (List ℕ)). ls ++ if_not_empty (last_part 10 (a ++ b))) p.whole
    ∙ ap (λ (l : List ℕ). (whole_parts 10 a ++ whole_parts 10 (last_part 10 a ++ b)) ++ if_not_empty l) p.last
    ∙ append_assoc (whole_parts 10 a) (whole_parts 10 (last_part 10 a ++ b)) (if_not_empty (last_part 10 (last_part 10 a ++ b)))

pub records_go_on : {A K : Type 0} (judge : Judge A K) (begun : Begun K) → Stays judge begun → (a b : List ℕ) → GoesOn (prefix_by_lines judge begun a) (records_by_lines judge (a ++ b))
records_go_on judge begun stays a b =
    subst (λ (lines : List (List ℕ)). GoesOn (prefix_by_lines judge begun a) (go_down judge lines at_end)) (sym (lines_of_two a b))
    (go_down_goes_on judge (whole_parts 10 a) (lines_of (last_part 10 a ++ b)) (begun (last_part 10 a)) at_end
    (λ kind e. (refused_part judge begun stays (last_part 10 a) b kind (holds_last 10 a) e).0))

pub prefix_goes_on : {A K : Type 0} (judge : Judge A K) (begun : Begun K) → Stays judge begun → (a b : List ℕ) → GoesOn (prefix_by_lines judge begun a) (prefix_by_lines judge begun (a ++ b))
prefix_goes_on judge begun stays a b =
    let p = parts_of 10 a b in
    subst (λ (lines : List (List ℕ)). GoesOn (prefix_by_lines judge begun a) (go_down judge lines (begun (last_part 10 (a ++ b))))) (sym p.whole)
    (subst (λ (l : List ℕ). GoesOn (prefix_by_lines judge begun a) (go_down judge (whole_parts 10 a ++ whole_parts 10 (last_part 10 a ++ b)) (begun l))) (sym p.last)
    (go_down_goes_on judge (whole_parts 10 a) (whole_parts 10 (last_part 10 a ++ b)) (begun (last_part 10 a)) (begun (last_part 10 (last_part 10 a ++ b)))
    (λ kind e. (refused_part judge begun stays (last_part 10 a) b kind (holds_last 10 a) e).1)))
