-- What a reader's words and lines say of the text that they were read from.
use Rattle.std.proofs.Common.{◌≡◌, ℕ, ℤ, zero, suc, pos, ◌+◌, ◌*◌, ◌-◌, ◌<◌, ◌≤◌, ◌^◌, Bool, true, false, List, [], ◌∷◌, length, get_or, All, map, codes, decimal, Option, Some, None, IfSome, refl, sym, ap, subst, ◌∙◌, inl, inr, arith, rules}
use Rattle.std.specs.Prelude.{◌==◌, nat_lt, nat_le, if◌then◌else◌, option_map, option_and_then, unsigned_abs}
use Rattle.std.specs.Fmt.{signed_decimal}
use Rattle.std.specs.Str.{bytes_eq}
use Rattle.std.proofs.lemmas.Bool.{cases_Bool, and_parts, eqb-true, leb-true, ltb-true, eqb-false}
use Rattle.std.proofs.lemmas.List.Elements.{All-nil, All-cons}
use Rattle.std.proofs.lemmas.Fmt.{decimal-digits_value}
use Rattle.std.proofs.lemmas.Slice.Eq.{bytes_eq-Decides}
use Rattle.std.proofs.lemmas.Str.Parse.{IsNumeralModel, numerals_by_fold, tells_digits}
use Rattle.std.specs.Str.Parse.{AllDigits}
use Rattle.fb_report.specs.Texts as texts
use Rattle.fb_report.specs.Texts.{line, head_text, done_text}
use Rattle.fb_verify.specs.declared.reports.Version.TheVariants.{One, Two}
use Rattle.fb_verify.specs.declared.lines.Line.{Line}
use Rattle.fb_verify.specs.declared.lines.Line.TheVariants as line
use Rattle.fb_verify.specs.Reports.{is_digit, number_from, number_of, below, negative, signed_number, first_number, first_signed, after_word, all_numbers, with_number, with_signed, with_word, at_end, row_kind, cut_of, head_line, shot_line, edges_line, base_line, weight_line, cut_line, trace_line, done_line, line_of}
use Rattle.fb_verify.specs.ReadBack.{Event, event_text, head_of, IsCutInRange, IsEventInRange}

-- ---- numbers

abbrev value_from : ℕ → List ℕ → ℕ
value_from n [] = n
value_from n (c ∷ cs) = value_from (n * 10 + (c - 48)) cs

numerals : IsNumeralModel (AllDigits 10) (value_from 0)
numerals = numerals_by_fold (AllDigits 10) tells_digits value_from (search rules)

-- digits, of this value behind the number so far
record AreDigits (n value : ℕ) (ds : List ℕ) : Type 0 where
  digits : AllDigits 10 ds
  same : value_from n ds ≡ value

digits_more : (n value c : ℕ) (cs : List ℕ) → is_digit c ≡ true → AreDigits (n * 10 + (c - 48)) value cs → AreDigits n value (c ∷ cs)
digits_more n value c cs digit more =
    let parts = and_parts (nat_le 48 c) (nat_le c 57) digit in
    record {
      digits = tells_digits.more c cs (leb-true 48 c parts.0, leb-true c 57 parts.1) more.digits;
      same = more.same;
    }

digits_of_number : (n value : ℕ) (ds : List ℕ) → number_from n ds ≡ Some value → AreDigits n value ds
digits_of_number n value [] e = record { digits = tells_digits.empty; same = cc }
digits_of_number n value (c ∷ cs) e = elim (cases_Bool (is_digit c)) [
  | inl digit ↦ digits_more n value c cs digit (digits_of_number (n * 10 + (c - 48)) value cs (rw digit at e))
  | inr other ↦ absurd (let f = rw other at e in cc)
]

-- digits without a leading nought are printed from their number
printed_digits : (ds : List ℕ) (n : ℕ) → AreDigits 0 n ds → 0 < length ds → (get_or ds 0 0 ≡ 48 → length ds ≡ 1) → n < 2 ^ 64 → ds ≡ decimal n
printed_digits ds n are some lead lt =
    let same = are.same in
    sym (decimal-digits_value numerals ds are.digits some lead (omega arith)) ∙ ap decimal same

printed_number : (w : List ℕ) (n : ℕ) → number_of w ≡ Some n → n < 2 ^ 64 → w ≡ decimal n
printed_number [] n e lt = absurd cc
printed_number (c ∷ []) n e lt = printed_digits (c ∷ []) n (digits_of_number 0 n (c ∷ []) e) (omega arith) (λ nought. refl) lt
printed_number (c ∷ d ∷ ds) n e lt = elim (cases_Bool (c == 48)) [
  | inl nought ↦ absurd (let f = rw nought at e in cc)
  | inr some ↦
      printed_digits (c ∷ d ∷ ds) n (digits_of_number 0 n (c ∷ d ∷ ds) (rw some at e)) (omega arith)
      (λ nought. absurd (eqb-false c 48 some nought)) lt
]

number_below : (bound : ℕ) (o : Option ℕ) → IfSome (below bound o) (λ n. (o ≡ Some n) × (n < bound))
number_below bound None = tt
number_below bound (Some n) = elim (cases_Bool (nat_lt n bound)) [
  | inl less ↦ rw less (refl, ltb-true n bound less)
  | inr more ↦ rw more tt
]

-- ---- the parts of a line

-- a word that is a number below the bound
word_below : (bound : ℕ) (w : List ℕ) → bound ≤ 2 ^ 64 → IfSome (below bound (number_of w)) (λ n. (w ≡ decimal n) × (n < bound))
word_below bound w le = turned (below bound (number_of w)) (number_below bound (number_of w)) where
  turned : (o : Option ℕ) → IfSome o (λ n. (number_of w ≡ Some n) × (n < bound)) → IfSome o (λ n. (w ≡ decimal n) × (n < bound))
  turned None h = tt
  turned (Some n) h = let lt = h.1 in (printed_number w n h.0 (omega arith), h.1)

and_then_some : {X Y : Type 0} (P : X → Type 0) (Q : Y → Type 0) (f : X → Option Y) (o : Option X) → IfSome o P → ((x : X) → P x → IfSome (f x) Q) → IfSome (option_and_then f o) Q
and_then_some P Q f None p h = tt
and_then_some P Q f (Some x) p h = h x p

map_some : {X Y : Type 0} (P : X → Type 0) (Q : Y → Type 0) (f : X → Y) (o : Option X) → IfSome o P → ((x : X) → P x → Q (f x)) → IfSome (option_map f o) Q
map_some P Q f None p h = tt
map_some P Q f (Some x) p h = h x p

abbrev IsFirst : ℕ → List (List ℕ) → ℕ × List (List ℕ) → Type 0
IsFirst bound ws p = (ws ≡ decimal p.0 ∷ p.1) × (p.0 < bound)

first_read : (bound : ℕ) (ws : List (List ℕ)) → bound ≤ 2 ^ 64 → IfSome (first_number bound ws) (IsFirst bound ws)
first_read bound [] le = tt
first_read bound (w ∷ ws) le =
    map_some (λ n. (w ≡ decimal n) × (n < bound)) (IsFirst bound (w ∷ ws)) (λ n. (n, ws)) (below bound (number_of w)) (word_below bound w le)
    (λ n h. (ap (λ (v : List ℕ). v ∷ ws) h.0, h.1))

number_read : {X : Type 0} (P : X → Type 0) (bound : ℕ) (ws : List (List ℕ)) (f : ℕ → List (List ℕ) → Option X) → bound ≤ 2 ^ 64
    → ((n : ℕ) (rest : List (List ℕ)) → ws ≡ decimal n ∷ rest → n < bound → IfSome (f n rest) P) → IfSome (with_number bound ws f) P
number_read P bound ws f le h =
    and_then_some (IsFirst bound ws) P (λ p. f p.0 p.1) (first_number bound ws) (first_read bound ws le) (λ p e. h p.0 p.1 e.0 e.1)

-- a word that is a number with its sign
signed_below : (bound : ℕ) (w : List ℕ) → bound ≤ 2 ^ 64
    → IfSome (signed_number bound w) (λ z. (w ≡ signed_decimal z) × (unsigned_abs z < bound))
signed_below bound [] le = tt
signed_below bound (c ∷ digits) le = elim (cases_Bool (c == 45)) [
  | inl minus ↦
      rw minus (and_then_some (λ n. (digits ≡ decimal n) × (n < bound)) (λ z. ((c ∷ digits) ≡ signed_decimal z) × (unsigned_abs z < bound)) negative
      (below bound (number_of digits)) (word_below bound digits le) (λ n h. sign n h.0 h.1 (eqb-true c 45 minus)))
  | inr other ↦
      rw other (map_some (λ n. ((c ∷ digits) ≡ decimal n) × (n < bound)) (λ z. ((c ∷ digits) ≡ signed_decimal z) × (unsigned_abs z < bound)) pos
      (below bound (number_of (c ∷ digits))) (word_below bound (c ∷ digits) le) (λ n h. h))
]
  where
    sign : (n : ℕ) → digits ≡ decimal n → n < bound → c ≡ 45 → IfSome (negative n) (λ z. ((c ∷ digits) ≡ signed_decimal z) × (unsigned_abs z < bound))
    sign zero e lt minus = tt
    sign (suc n) e lt minus = (ap (λ (ds : List ℕ). c ∷ ds) e ∙ ap (λ (b : ℕ). b ∷ decimal (suc n)) minus, lt)

abbrev IsFirstSigned : ℕ → List (List ℕ) → ℤ × List (List ℕ) → Type 0
IsFirstSigned bound ws p = (ws ≡ signed_decimal p.0 ∷ p.1) × (unsigned_abs p.0 < bound)

first_signed_read : (bound : ℕ) (ws : List (List ℕ)) → bound ≤ 2 ^ 64 → IfSome (first_signed bound ws) (IsFirstSigned bound ws)
first_signed_read bound [] le = tt
first_signed_read bound (w ∷ ws) le =
    map_some (λ z. (w ≡ signed_decimal z) × (unsigned_abs z < bound)) (IsFirstSigned bound (w ∷ ws)) (λ z. (z, ws)) (signed_number bound w)
    (signed_below bound w le) (λ z h. (ap (λ (v : List ℕ). v ∷ ws) h.0, h.1))

signed_read : {X : Type 0} (P : X → Type 0) (bound : ℕ) (ws : List (List ℕ)) (f : ℤ → List (List ℕ) → Option X) → bound ≤ 2 ^ 64
    → ((z : ℤ) (rest : List (List ℕ)) → ws ≡ signed_decimal z ∷ rest → unsigned_abs z < bound → IfSome (f z rest) P)
    → IfSome (with_signed bound ws f) P
signed_read P bound ws f le h =
    and_then_some (IsFirstSigned bound ws) P (λ p. f p.0 p.1) (first_signed bound ws) (first_signed_read bound ws le) (λ p e. h p.0 p.1 e.0 e.1)

after_read : (word : List ℕ) (ws : List (List ℕ)) → IfSome (after_word word ws) (λ rest. ws ≡ word ∷ rest)
after_read word [] = tt
after_read word (w ∷ ws) = elim (cases_Bool (bytes_eq w word)) [
  | inl same ↦ rw same (ap (λ (v : List ℕ). v ∷ ws) ((bytes_eq-Decides w word).0 same))
  | inr other ↦ rw other tt
]

word_read : {X : Type 0} (P : X → Type 0) (word : List ℕ) (ws : List (List ℕ)) (f : List (List ℕ) → Option X)
    → ((rest : List (List ℕ)) → ws ≡ word ∷ rest → IfSome (f rest) P) → IfSome (with_word word ws f) P
word_read P word ws f h = and_then_some (λ rest. ws ≡ word ∷ rest) P f (after_word word ws) (after_read word ws) h

end_read : (P : Line → Type 0) (said : Line) (ws : List (List ℕ)) → (ws ≡ [] → P said) → IfSome (at_end said ws) P
end_read P said [] h = h refl
end_read P said (w ∷ ws) h = tt

abbrev AreNumbers : List (List ℕ) → List ℕ → Type 0
AreNumbers ws ns = (ws ≡ map decimal ns) × All (λ n. n < 2 ^ 32) ns

all_read : (ws : List (List ℕ)) → IfSome (all_numbers ws) (AreNumbers ws)
all_read [] = (refl, All-nil (λ (n : ℕ). n < 2 ^ 32))
all_read (w ∷ ws) =
    let more = all_read ws in
    and_then_some (λ n. (w ≡ decimal n) × (n < 2 ^ 32)) (AreNumbers (w ∷ ws)) _ (below (2 ^ 32) (number_of w)) (word_below (2 ^ 32) w (omega arith))
    (λ n h. map_some (AreNumbers ws) (AreNumbers (w ∷ ws)) (λ ns. n ∷ ns) (all_numbers ws) more
    (λ ns t. (cc, All-cons (λ (n : ℕ). n < 2 ^ 32) n ns h.1 t.1)))

-- ---- lines

-- the text that says this, with its newline
abbrev pub IsTextOf : List ℕ → Line → Type 0
IsTextOf text (line.Head version) = text ≡ head_of version
IsTextOf text (line.Shot k) = (text ≡ line (codes "shot") (decimal k ∷ [])) × (k < 2 ^ 32)
IsTextOf text (line.Odd k v) = (text ≡ line (codes "shot") (decimal k ∷ codes "odd" ∷ decimal v ∷ [])) × (k < 2 ^ 32) × (v < 2 ^ 32)
IsTextOf text (line.Edges edges) = (text ≡ line (codes "edges") (map decimal edges)) × All (λ k. k < 2 ^ 32) edges
IsTextOf text (line.Base base) = (text ≡ texts.base_line base) × (unsigned_abs base < 2 ^ 63)
IsTextOf text (line.Weight weight) = (text ≡ texts.weight_line weight) × (unsigned_abs weight < 2 ^ 64)
IsTextOf text (line.Cut c) = (text ≡ texts.cut_line c) × IsCutInRange c
IsTextOf text line.Trace = (e : Event) × (text ≡ event_text e) × IsEventInRange e
IsTextOf text (line.Done totals) = (text ≡ done_text totals.rows totals.odd totals.units totals.fusions) × (totals.units < 2 ^ 64) × (totals.fusions < 2 ^ 64)

-- the words of a line as they follow its first one
abbrev Says : List ℕ → List (List ℕ) → Line → Type 0
Says w ws said = IsTextOf (line w ws) said

if_read : {X : Type 0} (P : X → Type 0) (b : Bool) (x y : Option X) → (b ≡ true → IfSome x P) → IfSome y P → IfSome (if b then x else y) P
if_read P true x y p q = p refl
if_read P false x y p q = q

-- a line that may begin with this word
word_first : (w word : List ℕ) (ws : List (List ℕ)) (x y : Option Line) → IfSome x (Says word ws) → IfSome y (Says w ws)
    → IfSome (if bytes_eq w word then x else y) (Says w ws)
word_first w word ws x y p q =
    if_read (Says w ws) (bytes_eq w word) x y (λ same. subst (λ (v : List ℕ). IfSome x (Says v ws)) (sym ((bytes_eq-Decides w word).0 same)) p) q

said : (w : List ℕ) (ws vs : List (List ℕ)) → ws ≡ vs → line w ws ≡ line w vs
said w ws vs e = ap (line w) e

head_read : (ws : List (List ℕ)) → IfSome (head_line ws) (Says (codes "fusion-report") ws)
unfolding head_line head_text head_of
head_read [] = tt
head_read (w ∷ ws) =
    if_read _ (bytes_eq w (codes "1")) _ _
    (λ same. let word = (bytes_eq-Decides w (codes "1")).0 same in
    end_read _ (line.Head One) ws (λ none. said (codes "fusion-report") (w ∷ ws) (codes "1" ∷ []) (cc)))
    (if_read _ (bytes_eq w (codes "2")) _ None
    (λ same. let word = (bytes_eq-Decides w (codes "2")).0 same in
    end_read _ (line.Head Two) ws (λ none. said (codes "fusion-report") (w ∷ ws) (codes "2" ∷ []) (cc)))
    tt)

kind_read : (k : ℕ) (ws rest : List (List ℕ)) → ws ≡ decimal k ∷ rest → k < 2 ^ 32 → IfSome (row_kind k rest) (Says (codes "shot") ws)
unfolding row_kind
kind_read k ws [] e lt = (ap (line (codes "shot")) e, lt)
kind_read k ws (w ∷ rest) e lt =
    if_read _ (bytes_eq w (codes "odd")) _ None
    (λ same. let word = (bytes_eq-Decides w (codes "odd")).0 same in
    number_read _ (2 ^ 32) rest _ (omega arith) (λ v more f less. end_read _ (line.Odd k v) more
    (λ none. (said (codes "shot") ws (decimal k ∷ codes "odd" ∷ decimal v ∷ []) (cc), lt, less))))
    tt

shot_read : (ws : List (List ℕ)) → IfSome (shot_line ws) (Says (codes "shot") ws)
unfolding shot_line
shot_read ws = number_read _ (2 ^ 32) ws row_kind (omega arith) (λ k rest e lt. kind_read k ws rest e lt)

edges_read : (ws : List (List ℕ)) → IfSome (edges_line ws) (Says (codes "edges") ws)
unfolding edges_line
edges_read ws = map_some (AreNumbers ws) _ line.Edges (all_numbers ws) (all_read ws) (λ edges h. (ap (line (codes "edges")) h.0, h.1))

weight_read : (ws : List (List ℕ)) → IfSome (weight_line ws) (Says (codes "weight") ws)
unfolding weight_line
weight_read ws =
    signed_read _ (2 ^ 64) ws _ (omega arith) (λ weight rest e lt. end_read _ (line.Weight weight) rest
    (λ none. (said (codes "weight") ws (signed_decimal weight ∷ []) (cc), lt)))

base_read : (ws : List (List ℕ)) → IfSome (base_line ws) (Says (codes "base") ws)
unfolding base_line
base_read ws =
    signed_read _ (2 ^ 63) ws _ (omega arith) (λ base rest e lt. end_read _ (line.Base base) rest
    (λ none. (said (codes "base") ws (signed_decimal base ∷ []) (cc), lt)))

cut_said : (value : ℕ) (vertices : List ℕ) (ws : List (List ℕ)) → ws ≡ decimal value ∷ map decimal vertices → value < 2 ^ 64 → All (λ v. v < 2 ^ 32) vertices
    → IfSome (cut_of value vertices) (Says (codes "cut") ws)
cut_said value vertices ws e lt fits = elim (cases_Bool (value == 0)) [
  | inl nought ↦ rw nought tt
  | inr some ↦ rw some (ap (line (codes "cut")) e, (record { least = above some; most = lt; vertices = fits }))
]
  where
    above : value == 0 ≡ false → 1 ≤ value
    above some = let other = eqb-false value 0 some in omega arith

cut_read : (ws : List (List ℕ)) → IfSome (cut_line ws) (Says (codes "cut") ws)
unfolding cut_line
cut_read ws =
    number_read _ (2 ^ 64) ws _ (omega arith) (λ value rest e lt.
    and_then_some (AreNumbers rest) _ (cut_of value) (all_numbers rest) (all_read rest)
    (λ vertices h. cut_said value vertices ws (e ∙ ap (λ (l : List (List ℕ)). decimal value ∷ l) h.0) lt h.1))

-- a trace line by its first word
trace_read : (gave : Bool) (ws : List (List ℕ)) → IfSome (trace_line ws) (Says (if gave then codes "gave" else codes "took") ws)
unfolding trace_line texts.trace_line
trace_read gave ws =
    number_read _ (2 ^ 32) ws _ (omega arith) (λ worker ws' e a.
    number_read _ (2 ^ 32) ws' _ (omega arith) (λ shot ws'' f b.
    number_read _ (2 ^ 32) ws'' _ (omega arith) (λ node rest g c. end_read _ line.Trace rest
    (λ none. (
      record { gave = gave; worker = worker; shot = shot; node = node },
      said (if gave then codes "gave" else codes "took") ws (decimal worker ∷ decimal shot ∷ decimal node ∷ []) (cc),
      record { worker = a; shot = b; node = c },
    )))))

done_read : (ws : List (List ℕ)) → IfSome (done_line ws) (Says (codes "done") ws)
unfolding done_line done_text
done_read ws =
    number_read _ (2 ^ 64) ws _ (omega arith) (λ rows ws1 e1 a. word_read _ (codes "odd") ws1 _ (λ ws2 e2.
    number_read _ (2 ^ 64) ws2 _ (omega arith) (λ odd ws3 e3 b. word_read _ (codes "units") ws3 _ (λ ws4 e4.
    number_read _ (2 ^ 64) ws4 _ (omega arith) (λ units ws5 e5 c. word_read _ (codes "fusions") ws5 _ (λ ws6 e6.
    number_read _ (2 ^ 64) ws6 _ (omega arith) (λ fusions rest e7 d.
    end_read _ (line.Done (record { rows = rows; odd = odd; units = units; fusions = fusions })) rest
    (λ none. (said (codes "done") ws (decimal rows ∷ codes "odd" ∷ decimal odd ∷ codes "units" ∷ decimal units ∷ codes "fusions" ∷ decimal fusions ∷ []) (cc), c, d)))))))))

-- a line of these words that says something
pub line_read : (w : List ℕ) (ws : List (List ℕ)) → IfSome (line_of (w ∷ ws)) (Says w ws)
unfolding line_of
line_read w ws =
    word_first w (codes "fusion-report") ws _ _ (head_read ws)
    (word_first w (codes "shot") ws _ _ (shot_read ws)
    (word_first w (codes "edges") ws _ _ (edges_read ws)
    (word_first w (codes "base") ws _ _ (base_read ws)
    (word_first w (codes "weight") ws _ _ (weight_read ws)
    (word_first w (codes "cut") ws _ _ (cut_read ws)
    (word_first w (codes "took") ws _ _ (trace_read false ws)
    (word_first w (codes "gave") ws _ _ (trace_read true ws)
    (word_first w (codes "done") ws _ _ (done_read ws) tt))))))))
