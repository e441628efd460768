-- What a line of `01` comes to, by the bits that it begins with and what follows them.
use Rattle.std.specs.Prelude.{if◌then◌else◌}
use Rattle.std.proofs.Common.{◌≡◌, ℕ, zero, suc, ◌+◌, ◌-◌, ◌<◌, ◌≤◌, Bool, true, false, eqb, List, [], ◌∷◌, ◌++◌, length, get_or, take, drop, take-add, Option, Some, Result, Ok, Err, refl, sym, ap, subst, ◌∙◌, append_assoc, inl, inr, arith}
use Rattle.std.specs.List.{list_all}
use Rattle.std.proofs.lemmas.Bool.{cases_Bool, cases_lt, lt-ltb, le-ltb, eqb-true, eqb-false, and_parts, and_left, and_right, and_from, ne_eqb, cond-true, cond-false}
use Rattle.std.proofs.lemmas.List.{append-nil, take_all, take_at, drop_at, drop-drop, take-append-le, take_rest, take-take, length-append, length-take-le, length-drop, take-append-drop, get_or-drop}
use Rattle.std.proofs.lemmas.List.Folds.{list_all-append}
use Rattle.fb_shots_stim.specs.declared.answer.Kind.{Kind}
use Rattle.fb_shots_stim.specs.declared.answer.Kind.TheVariants.{BadByte, ShortRecord, LongRecord}
use Rattle.fb_records.specs.declared.answer.Next.{Next}
use Rattle.fb_records.specs.declared.answer.Next.TheVariants as answers
use Rattle.fb_shots_stim.specs.declared.dense.Step.{Step}
use Rattle.fb_shots_stim.specs.declared.dense.Step.TheVariants.{Line, NotYet, End, Refused}
use Rattle.fb_records.specs.Records.{at_end, still_open, refused, only, with_line, Reader}
use Rattle.fb_shots_stim.specs.Shots.{places_from}
use Rattle.fb_records.specs.Lines.{holds, without_return, bare, after_line, Stays}
use Rattle.fb_records.specs.Answers.{Answers}
use Rattle.fb_shots_stim.specs.Text01.{is_bit, is_one, line_01, begun_01, records_01, prefix_01}
use Rattle.fb_shots_stim.specs.InternalStep01.{line_end_01, bad_01, step_01}
use Rattle.fb_records.proofs.LineLemmas.{after_line_one, after_line_none, holds_none, without_return_end, without_return_at}
use Rattle.fb_records.proofs.RecordLemmas.{records_none, prefix_one, prefix_none, refused_part, stays_bare}
use Rattle.fb_records.proofs.AnswerLemmas.{refuses_prefix, refuses_last, gives_line, gives_last}

-- ---- one line

all_more : (p : ℕ → Bool) (n : ℕ) (a b : List ℕ) → list_all p (take n a) ≡ false → list_all p (take n (a ++ b)) ≡ false
all_more p zero a b h = h
all_more p (suc n) [] b h = absurd cc
all_more p (suc n) (x ∷ a) b h = elim (cases_Bool (p x)) [
  | inl e ↦ rw e (all_more p n a b (rw e at h))
  | inr e ↦ rw e refl
]

line_bad : (n : ℕ) (line : List ℕ) → list_all is_bit (take n line) ≡ false → (line_01 n line ≡ Err BadByte) × (begun_01 n line ≡ refused BadByte)
line_bad n line h = (rw h refl, rw h refl)

line_long : (n : ℕ) (line : List ℕ) → list_all is_bit (take n line) ≡ true → n < length line → (line_01 n line ≡ Err LongRecord) × (begun_01 n line ≡ refused LongRecord)
line_long n line h lt = let t = lt-ltb n (length line) lt in (rw (h, t) refl, rw (h, t) refl)

pub begun_bits : (n : ℕ) (bits : List ℕ) → list_all is_bit bits ≡ true → length bits ≤ n → begun_01 n bits ≡ still_open
begun_bits n bits h le = rw (take_all n bits le, h, le-ltb n (length bits) le) refl

pub line_short : (n : ℕ) (bits : List ℕ) → list_all is_bit bits ≡ true → length bits < n → line_01 n bits ≡ Err ShortRecord
line_short n bits h lt = rw (take_all n bits (omega arith), h, le-ltb n (length bits) (omega arith), lt-ltb (length bits) n lt) refl

pub line_exact : (n : ℕ) (bits : List ℕ) → list_all is_bit bits ≡ true → length bits ≡ n → line_01 n bits ≡ Ok (Some (places_from is_one 0 bits))
line_exact n bits h e = rw (take_all n bits (omega arith), h, le-ltb n (length bits) (omega arith), le-ltb (length bits) n (omega arith)) refl

stays_bad : (n : ℕ) (part more : List ℕ) → list_all is_bit (take n part) ≡ false → (kind : Kind) → begun_01 n part ≡ refused kind → (line_01 n (part ++ more) ≡ Err kind) × (begun_01 n (part ++ more) ≡ refused kind)
stays_bad n part more h kind e =
    let all = line_bad n (part ++ more) (all_more is_bit n part more h) in
    let same : BadByte ≡ kind = (let now = (line_bad n part h).1 in cc) in
    subst (λ (k : Kind). (line_01 n (part ++ more) ≡ Err k) × (begun_01 n (part ++ more) ≡ refused k)) same all

stays_long : (n : ℕ) (part more : List ℕ) → list_all is_bit (take n part) ≡ true → n < length part → (kind : Kind) → begun_01 n part ≡ refused kind → (line_01 n (part ++ more) ≡ Err kind) × (begun_01 n (part ++ more) ≡ refused kind)
stays_long n part more h lt kind e =
    let prefix : take n (part ++ more) ≡ take n part = take-append-le n part more (omega arith) in
    let all = line_long n (part ++ more) (ap (list_all is_bit) prefix ∙ h) (omega (arith, length-append part more)) in
    let same : LongRecord ≡ kind = (let now = (line_long n part h lt).1 in cc) in
    subst (λ (k : Kind). (line_01 n (part ++ more) ≡ Err k) × (begun_01 n (part ++ more) ≡ refused k)) same all

stays : (n : ℕ) (part more : List ℕ) (kind : Kind) → begun_01 n part ≡ refused kind → (line_01 n (part ++ more) ≡ Err kind) × (begun_01 n (part ++ more) ≡ refused kind)
stays n part more kind e = elim (cases_Bool (list_all is_bit (take n part))) [
  | inr h ↦ stays_bad n part more h kind e
  | inl h ↦ elim (cases_lt n (length part)) [
    | inl lt ↦ stays_long n part more h lt kind e
    | inr le ↦ absurd (let o : begun_01 n part ≡ still_open = rw (h, le-ltb n (length part) le) refl in cc)
  ]
]

pub stays_01 : (n : ℕ) → Stays (bare (line_01 n)) (bare (begun_01 n))
stays_01 n = stays_bare (line_01 n) (begun_01 n) (record {
  nothing = begun_bits n [] refl (omega arith);
  line = λ part more kind e. (stays n part more kind e).0;
  part = λ part more kind e. (stays n part more kind e).1;
})

-- ---- bits

bit_other : (b c : ℕ) → is_bit b ≡ true → is_bit c ≡ false → eqb b c ≡ false
bit_other b c h n = elim (cases_Bool (eqb b c)) [
  | inl e ↦ absurd (let same = ap is_bit (eqb-true b c e) in cc)
  | inr e ↦ e
]

pub bits_hold : (c : ℕ) (bits : List ℕ) → is_bit c ≡ false → list_all is_bit bits ≡ true → holds c bits ≡ false
bits_hold c [] n h = refl
bits_hold c (b ∷ bits) n h =
    let p = and_parts (is_bit b) (list_all is_bit bits) h in
    rw (bit_other b c p.0 n, bits_hold c bits n p.1) refl

pub bits_return : (bits : List ℕ) → list_all is_bit bits ≡ true → without_return bits ≡ bits
bits_return [] h = refl
bits_return (b ∷ []) h =
    let p = and_parts (is_bit b) true h in
    rw (bit_other b 13 p.0 refl) refl
bits_return (b ∷ c ∷ bits) h =
    let p = and_parts (is_bit b) (list_all is_bit (c ∷ bits)) h in
    ap (λ (l : List ℕ). b ∷ l) (bits_return (c ∷ bits) p.1)

-- a byte after the bits that is none, or one too many
pub begun_bad : (n : ℕ) (bits : List ℕ) (b : ℕ) (more : List ℕ) → list_all is_bit bits ≡ true → length bits < n → is_bit b ≡ false → begun_01 n (bits ++ b ∷ more) ≡ refused BadByte
begun_bad n bits b more h lt bad = (line_bad n (bits ++ b ∷ more) (none n bits b more lt bad)).1 where
  none : (n : ℕ) (bits : List ℕ) (b : ℕ) (more : List ℕ) → length bits < n → is_bit b ≡ false → list_all is_bit (take n (bits ++ b ∷ more)) ≡ false
  none zero bits b more lt bad = absurd (omega arith)
  none (suc n) [] b more lt bad = rw bad refl
  none (suc n) (c ∷ bits) b more lt bad = and_right (is_bit c) _ (none n bits b more (omega arith) bad)

pub begun_long : (n : ℕ) (bits : List ℕ) (b : ℕ) (more : List ℕ) → list_all is_bit bits ≡ true → length bits ≡ n → begun_01 n (bits ++ b ∷ more) ≡ refused LongRecord
begun_long n bits b more h e =
    (line_long n (bits ++ b ∷ more) (ap (list_all is_bit) (take_at bits (b ∷ more) n e) ∙ h) (omega (arith, length-append bits (b ∷ more)))).1

-- ---- a step

abbrev pub reader : ℕ → List ℕ → Bool → Reader ℕ
reader n rest finished = record { subject = n; rest = rest; finished = finished }

-- the answer that a step leads to, and what it leaves of the rest
abbrev pub answer_at : List ℕ → Step → Next (List ℕ) Kind
answer_at bits (Line used) = answers.Shot (places_from is_one 0 bits)
answer_at bits NotYet = answers.NotYet
answer_at bits End = answers.End
answer_at bits (Refused kind) = answers.Refused kind

abbrev pub left_at : List ℕ → Step → List ℕ
left_at rest (Line used) = drop used rest
left_at rest NotYet = rest
left_at rest End = rest
left_at rest (Refused kind) = rest

-- the step is right where a line begins by the bits and goes on by the tail
abbrev pub IsRight : ℕ → Bool → (bits tail : List ℕ) → Step → Type 0
IsRight n finished bits tail step =
    Answers records_01 prefix_01 after_line (reader n (bits ++ tail) finished) (reader n (left_at (bits ++ tail) step) finished) (answer_at bits step)

-- what the bits of a line are known to be
pub record AreBits (n : ℕ) (bits : List ℕ) : Type 0 where
  pub each : list_all is_bit bits ≡ true
  pub most : length bits ≤ n

refused_right : (n : ℕ) (finished : Bool) (bits tail : List ℕ) (kind : Kind) → prefix_01 n (bits ++ tail) ≡ only (refused kind) → IsRight n finished bits tail (Refused kind)
refused_right n finished bits tail kind e =
    (refuses_prefix (bare (line_01 n)) (bare (begun_01 n)) (stays_01 n) (reader n (bits ++ tail) finished) kind e, refl)

-- at the end of a line that has its newline
line_right : (n : ℕ) (finished : Bool) (bits tail line more : List ℕ) (ending : ℕ) → AreBits n bits → bits ++ tail ≡ line ++ 10 ∷ more → holds 10 line ≡ false → without_return line ≡ bits
    → drop (length bits + ending) (bits ++ tail) ≡ more → IsRight n finished bits tail (line_end_01 n (length bits) ending)
line_right n finished bits tail line more ending known cut h r rest = elim (cases_Bool (eqb (length bits) n)) [
  | inl e ↦
      let judged : line_01 n (without_return line) ≡ Ok (Some (places_from is_one 0 bits)) = ap (line_01 n) r ∙ line_exact n bits known.each (eqb-true _ _ e) in
      let whole : bits ++ tail ≡ line ++ 10 ∷ drop (length bits + ending) (bits ++ tail) = cut ∙ ap (λ (l : List ℕ). line ++ 10 ∷ l) (sym rest) in
      subst (IsRight n finished bits tail) (sym (cond-true (eqb (length bits) n) (Line (length bits + ending)) (Refused ShortRecord) e)) (
        gives_line (bare (line_01 n)) (bare (begun_01 n)) (reader n (bits ++ tail) finished) (reader n (drop (length bits + ending) (bits ++ tail)) finished) line (places_from is_one 0 bits) whole h judged,
        ap (λ (l : List ℕ). reader n l finished) (rest ∙ sym (ap after_line cut ∙ after_line_one line more h)),
      )
  | inr e ↦
      let lt : length bits < n = (let ne = eqb-false _ _ e in let le = known.most in omega arith) in
      let judged : line_01 n (without_return line) ≡ Err ShortRecord = ap (line_01 n) r ∙ line_short n bits known.each lt in
      subst (IsRight n finished bits tail) (sym (cond-false (eqb (length bits) n) (Line (length bits + ending)) (Refused ShortRecord) e))
      (refused_right n finished bits tail ShortRecord
      (ap (prefix_01 n) cut ∙ prefix_one (bare (line_01 n)) (bare (begun_01 n)) line more h ∙ ap (λ (given : Result (Option (List ℕ)) Kind). with_line given (prefix_01 n more)) judged))
]

-- at the end of the input
last_right : (n : ℕ) (bits tail : List ℕ) (b : ℕ) (line : List ℕ) (ending : ℕ) → AreBits n bits → bits ++ tail ≡ b ∷ line → holds 10 (b ∷ line) ≡ false → without_return (b ∷ line) ≡ bits
    → drop (length bits + ending) (bits ++ tail) ≡ [] → IsRight n true bits tail (line_end_01 n (length bits) ending)
last_right n bits tail b line ending known cut h r rest = elim (cases_Bool (eqb (length bits) n)) [
  | inl e ↦
      let judged : line_01 n (without_return (b ∷ line)) ≡ Ok (Some (places_from is_one 0 bits)) = ap (line_01 n) r ∙ line_exact n bits known.each (eqb-true _ _ e) in
      subst (IsRight n true bits tail) (sym (cond-true (eqb (length bits) n) (Line (length bits + ending)) (Refused ShortRecord) e)) (
        gives_last (bare (line_01 n)) (bare (begun_01 n)) (reader n (bits ++ tail) true) (reader n (drop (length bits + ending) (bits ++ tail)) true) b line (places_from is_one 0 bits) refl cut rest h judged,
        ap (λ (l : List ℕ). reader n l true) (rest ∙ sym (ap after_line cut ∙ after_line_none (b ∷ line) h)),
      )
  | inr e ↦
      let lt : length bits < n = (let ne = eqb-false _ _ e in let le = known.most in omega arith) in
      let judged : line_01 n (without_return (b ∷ line)) ≡ Err ShortRecord = ap (line_01 n) r ∙ line_short n bits known.each lt in
      subst (IsRight n true bits tail) (sym (cond-false (eqb (length bits) n) (Line (length bits + ending)) (Refused ShortRecord) e)) (
        refuses_last (bare (line_01 n)) (bare (begun_01 n)) (reader n (bits ++ tail) true) ShortRecord refl
            (ap (records_01 n) cut ∙ records_none (bare (line_01 n)) b line h ∙ ap (λ (given : Result (Option (List ℕ)) Kind). with_line given (only at_end)) judged),
        refl,
      )
]

-- at a byte that ends no line
bad_right : (n : ℕ) (finished : Bool) (bits tail part more : List ℕ) (b : ℕ) (rest : List ℕ) → AreBits n bits → (length bits < n → is_bit b ≡ false) → bits ++ tail ≡ part ++ more → holds 10 part ≡ false
    → without_return part ≡ bits ++ b ∷ rest → IsRight n finished bits tail (bad_01 n (length bits))
bad_right n finished bits tail part more b rest known stop cut h r = elim (cases_Bool (eqb (length bits) n)) [
  | inl e ↦
      let judged : begun_01 n (without_return part) ≡ refused LongRecord = ap (begun_01 n) r ∙ begun_long n bits b rest known.each (eqb-true _ _ e) in
      subst (IsRight n finished bits tail) (sym (cond-true (eqb (length bits) n) (Refused LongRecord) (Refused BadByte) e))
      (refused_right n finished bits tail LongRecord (ap (prefix_01 n) cut ∙ (refused_part (bare (line_01 n)) (bare (begun_01 n)) (stays_01 n) part more LongRecord h judged).1))
  | inr e ↦
      let lt : length bits < n = (let ne = eqb-false _ _ e in let le = known.most in omega arith) in
      let judged : begun_01 n (without_return part) ≡ refused BadByte = ap (begun_01 n) r ∙ begun_bad n bits b rest known.each lt (stop lt) in
      subst (IsRight n finished bits tail) (sym (cond-false (eqb (length bits) n) (Refused LongRecord) (Refused BadByte) e))
      (refused_right n finished bits tail BadByte (ap (prefix_01 n) cut ∙ (refused_part (bare (line_01 n)) (bare (begun_01 n)) (stays_01 n) part more BadByte h judged).1))
]

drop_past : (k : ℕ) (bits tail : List ℕ) → drop (length bits + k) (bits ++ tail) ≡ drop k tail
drop_past k bits tail = sym (drop-drop k (length bits) (bits ++ tail)) ∙ ap (drop k) (drop_at bits tail (length bits) refl)

some_byte : (bits : List ℕ) (b : ℕ) (tail : List ℕ) → (x : ℕ) × (line : List ℕ) × (bits ++ b ∷ tail ≡ x ∷ line)
some_byte [] b tail = (b, tail, refl)
some_byte (x ∷ bits) b tail = (x, bits ++ b ∷ tail, refl)

nothing_right : (n : ℕ) (finished : Bool) (bits : List ℕ) → AreBits n bits → IsRight n finished bits [] (step_01 n finished (length bits) [])
nothing_right n false bits known =
    let ended : bits ++ [] ≡ bits = append-nil bits in (
      refl,
      ap (prefix_01 n) ended ∙ prefix_none (bare (line_01 n)) (bare (begun_01 n)) bits (bits_hold 10 bits refl known.each)
          ∙ ap (λ (l : List ℕ). only (begun_01 n l)) (bits_return bits known.each) ∙ ap only (begun_bits n bits known.each known.most),
      refl,
    )
nothing_right n true [] known = (refl, refl, refl)
nothing_right n true (b ∷ bits) known =
    subst (IsRight n true (b ∷ bits) []) (sym (cond-false (eqb (length (b ∷ bits)) 0) End (line_end_01 n (length (b ∷ bits)) 0) (ne_eqb _ _ (λ e. omega arith))))
    (last_right n (b ∷ bits) [] b bits 0 known (append-nil (b ∷ bits)) (bits_hold 10 (b ∷ bits) refl known.each) (bits_return (b ∷ bits) known.each) (drop_past 0 (b ∷ bits) []))

newline_right : (n : ℕ) (finished : Bool) (bits : List ℕ) (b : ℕ) (tail : List ℕ) → AreBits n bits → b ≡ 10 → IsRight n finished bits (b ∷ tail) (line_end_01 n (length bits) 1)
newline_right n finished bits b tail known b-is =
    line_right n finished bits (b ∷ tail) bits tail 1 known (ap (λ (x : ℕ). bits ++ x ∷ tail) b-is) (bits_hold 10 bits refl known.each) (bits_return bits known.each) (drop_past 1 bits (b ∷ tail))

return_holds : (n : ℕ) (bits : List ℕ) → AreBits n bits → holds 10 (bits ++ 13 ∷ []) ≡ false
return_holds n bits known = holds_none 10 bits (13 ∷ []) (bits_hold 10 bits refl known.each) refl

return_right : (n : ℕ) (finished : Bool) (bits : List ℕ) (b : ℕ) → AreBits n bits → b ≡ 13 → IsRight n finished bits (b ∷ []) (if finished then line_end_01 n (length bits) 1 else NotYet)
return_right n false bits b known b-is = (
  refl,
  ap (λ (x : ℕ). prefix_01 n (bits ++ x ∷ [])) b-is ∙ prefix_none (bare (line_01 n)) (bare (begun_01 n)) (bits ++ 13 ∷ []) (return_holds n bits known)
      ∙ ap (λ (l : List ℕ). only (begun_01 n l)) (without_return_end bits) ∙ ap only (begun_bits n bits known.each known.most),
  refl,
)
return_right n true bits b known b-is =
    let some = some_byte bits 13 [] in
    last_right n bits (b ∷ []) some.0 some.1 1 known (ap (λ (x : ℕ). bits ++ x ∷ []) b-is ∙ some.2)
    (ap (holds 10) (sym some.2) ∙ return_holds n bits known) (ap without_return (sym some.2) ∙ without_return_end bits) (drop_past 1 bits (b ∷ []))

other_right : (n : ℕ) (finished : Bool) (bits : List ℕ) (b : ℕ) (tail : List ℕ) → AreBits n bits → (length bits < n → is_bit b ≡ false) → eqb b 10 ≡ false → eqb b 13 ≡ false → IsRight n finished bits (b ∷ tail) (bad_01 n (length bits))
other_right n finished bits b tail known stop ne10 ne13 =
    let left = without_return_at bits [] b (inl ne13) in
    bad_right n finished bits (b ∷ tail) (bits ++ b ∷ []) tail b left.0 known stop (sym (append_assoc bits (b ∷ []) tail))
    (holds_none 10 bits (b ∷ []) (bits_hold 10 bits refl known.each) (rw ne10 refl)) left.1

childless_return_right : (n : ℕ) (finished : Bool) (bits : List ℕ) (b c : ℕ) (tail : List ℕ) → AreBits n bits → (length bits < n → is_bit b ≡ false) → eqb b 10 ≡ false → eqb c 10 ≡ false → IsRight n finished bits (b ∷ c ∷ tail) (bad_01 n (length bits))
childless_return_right n finished bits b c tail known stop ne10 other =
    let left = without_return_at bits (c ∷ []) b (inr (c, [], refl)) in
    bad_right n finished bits (b ∷ c ∷ tail) (bits ++ b ∷ c ∷ []) tail b left.0 known stop (sym (append_assoc bits (b ∷ c ∷ []) tail))
    (holds_none 10 bits (b ∷ c ∷ []) (bits_hold 10 bits refl known.each) (rw (ne10, other) refl)) left.1

return_newline_right : (n : ℕ) (finished : Bool) (bits : List ℕ) (b c : ℕ) (tail : List ℕ) → AreBits n bits → b ≡ 13 → c ≡ 10 → IsRight n finished bits (b ∷ c ∷ tail) (line_end_01 n (length bits) 2)
return_newline_right n finished bits b c tail known b-is c-is =
    line_right n finished bits (b ∷ c ∷ tail) (bits ++ 13 ∷ []) tail 2 known
    (ap (λ (x : ℕ). bits ++ x ∷ c ∷ tail) b-is ∙ ap (λ (x : ℕ). bits ++ 13 ∷ x ∷ tail) c-is ∙ sym (append_assoc bits (13 ∷ []) (10 ∷ tail)))
    (return_holds n bits known) (without_return_end bits) (drop_past 2 bits (b ∷ c ∷ tail))

pub step_right : (n : ℕ) (finished : Bool) (bits tail : List ℕ) → AreBits n bits → (length bits < n → 0 < length tail → is_bit (get_or tail 0 0) ≡ false) → IsRight n finished bits tail (step_01 n finished (length bits) tail)
step_right n finished bits [] known stop = nothing_right n finished bits known
step_right n finished bits (b ∷ []) known stop = elim (cases_Bool (eqb b 10)) [
  | inl e ↦ subst (IsRight n finished bits (b ∷ [])) (sym (cond-true _ _ _ e)) (newline_right n finished bits b [] known (eqb-true b 10 e))
  | inr e ↦ subst (IsRight n finished bits (b ∷ [])) (sym (cond-false _ _ _ e)) (elim (cases_Bool (eqb b 13)) [
    | inl r ↦ subst (IsRight n finished bits (b ∷ [])) (sym (cond-true _ _ _ r)) (return_right n finished bits b known (eqb-true b 13 r))
    | inr r ↦ subst (IsRight n finished bits (b ∷ [])) (sym (cond-false _ _ _ r)) (other_right n finished bits b [] known (λ lt. stop lt (omega arith)) e r)
  ])
]
step_right n finished bits (b ∷ c ∷ tail) known stop = elim (cases_Bool (eqb b 10)) [
  | inl e ↦ subst (IsRight n finished bits (b ∷ c ∷ tail)) (sym (cond-true _ _ _ e)) (newline_right n finished bits b (c ∷ tail) known (eqb-true b 10 e))
  | inr e ↦ subst (IsRight n finished bits (b ∷ c ∷ tail)) (sym (cond-false _ _ _ e)) (elim (cases_Bool (eqb b 13)) [
    | inr r ↦ subst (IsRight n finished bits (b ∷ c ∷ tail)) (sym (cond-false _ _ _ (and_left _ _ r))) (other_right n finished bits b (c ∷ tail) known (λ lt. stop lt (omega arith)) e r)
    | inl r ↦ elim (cases_Bool (eqb c 10)) [
      | inl w ↦ subst (IsRight n finished bits (b ∷ c ∷ tail)) (sym (cond-true _ _ _ (and_from _ _ r w))) (return_newline_right n finished bits b c tail known (eqb-true b 13 r) (eqb-true c 10 w))
      | inr w ↦ subst (IsRight n finished bits (b ∷ c ∷ tail)) (sym (cond-false _ _ _ (and_right _ _ w))) (childless_return_right n finished bits b c tail known (λ lt. stop lt (omega arith)) e w)
    ]
  ])
]

-- what a reader's next answer is, by the step at the end of the bits that its rest begins with
pub rest_right : (n : ℕ) (rest : List ℕ) (finished : Bool) (good : ℕ) (step : Step) → list_all is_bit (take good rest) ≡ true → good ≤ n → good ≤ length rest
    → (good < n → good < length rest → is_bit (get_or rest good 0) ≡ false) → step ≡ step_01 n finished good (take (length rest - good) (drop good rest))
    → Answers records_01 prefix_01 after_line (reader n rest finished) (reader n (left_at rest step) finished) (answer_at (take good rest) step)
rest_right n rest finished good step bits most within stop is =
    let len : length (take good rest) ≡ good = length-take-le good rest within in
    let cut : take good rest ++ drop good rest ≡ rest = take-append-drop good rest in
    let tail : take (length rest - good) (drop good rest) ≡ drop good rest = take_rest rest good in
    let stops : length (take good rest) < n → 0 < length (drop good rest) → is_bit (get_or (drop good rest) 0 0) ≡ false =
    λ lt some. ap is_bit (get_or-drop good rest 0 0 ∙ ap (λ (i : ℕ). get_or rest i 0) (omega arith)) ∙ stop (omega arith) (omega (arith, length-drop good rest)) in
    let right = step_right n finished (take good rest) (drop good rest) (record { each = bits; most = omega arith }) stops in
    let step-is : step_01 n finished (length (take good rest)) (drop good rest) ≡ step =
    ap (λ (k : ℕ). step_01 n finished k (drop good rest)) len ∙ sym (is ∙ ap (step_01 n finished good) tail) in
    subst (λ (l : List ℕ). Answers records_01 prefix_01 after_line (reader n l finished) (reader n (left_at l step) finished) (answer_at (take good rest) step)) cut
    (subst (IsRight n finished (take good rest) (drop good rest)) step-is right)

-- the bits among the first bytes, and those that the next n bytes begin with
pub bits_more : (bytes : List ℕ) (i n b : ℕ) → b ≤ n → list_all is_bit (take i bytes) ≡ true
    → list_all is_bit (take b (take n (drop i bytes))) ≡ true → list_all is_bit (take (i + b) bytes) ≡ true
bits_more bytes i n b le first next =
    ap (list_all is_bit) (take-add i b bytes)
    ∙ list_all-append is_bit (take i bytes) (take b (drop i bytes))
    ∙ and_from (list_all is_bit (take i bytes)) (list_all is_bit (take b (drop i bytes))) first
    (ap (list_all is_bit) (sym (take-take b n (drop i bytes) le)) ∙ next)
