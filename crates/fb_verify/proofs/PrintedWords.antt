-- Words and lines as a report prints them, and what a reader makes of them.
use Rattle.std.proofs.Common.{◌≡◌, ℕ, ℤ, suc, pos, negsuc, ◌+◌, ◌*◌, ◌-◌, ◌/◌, ◌%◌, ◌^◌, ◌<◌, ◌≤◌, Bool, true, false, eqb, List, [], ◌∷◌, ◌++◌, get_or, All, map, decimal, Some, refl, sym, ap, subst, ◌∙◌, inl, inr, arith, append_assoc}
use Rattle.std.specs.Prelude.{◌==◌, option_map, option_and_then, unsigned_abs}
use Rattle.std.specs.Fmt.{signed_decimal}
use Rattle.std.specs.List.{list_any, slice_split, join_with_byte}
use Rattle.std.proofs.lemmas.Bool.{cases_Bool, cases_lt, eqb-true, or_parts, ne_eqb, eq-eqb, and_from, le-leb, lt-ltb}
use Rattle.std.proofs.lemmas.Fmt.{decimal_by_steps, decimal_digit, first_decimal}
use Rattle.std.proofs.lemmas.List.Elements.{All-head, All-tail}
use Rattle.std.proofs.lemmas.List.Folds.{list_any-append}
use Rattle.fb_report.specs.Texts.{line}
use Rattle.fb_verify.specs.Reports.{words_of, is_digit, number_from, number_of, below, signed_number, first_number, first_signed, all_numbers}

-- ---- numbers

digit_is : (n : ℕ) → n < 10 → is_digit (48 + n) ≡ true
digit_is n lt = and_from _ _ (le-leb 48 (48 + n) (omega arith)) (le-leb (48 + n) 57 (omega arith))

number_digit : (value n : ℕ) → n < 10 → number_from value ((48 + n) ∷ []) ≡ Some (value * 10 + n)
number_digit value n lt = rw (digit_is n lt) (ap Some (let e : value * 10 + (48 + n - 48) ≡ value * 10 + n = omega arith in e))

number_from-append : (value : ℕ) (ds es : List ℕ) → number_from value (ds ++ es) ≡ option_and_then (λ n. number_from n es) (number_from value ds)
number_from-append value [] es = refl
number_from-append value (c ∷ ds) es = elim (cases_Bool (is_digit c)) [
  | inl digit ↦ rw digit (number_from-append (value * 10 + (c - 48)) ds es)
  | inr other ↦ rw other refl
]

abbrev pub holds : ℕ → List ℕ → Bool
holds s w = list_any (λ c. eqb c s) w

digit_apart : (s n : ℕ) → s < 48 → holds s ((48 + n) ∷ []) ≡ false
digit_apart s n lt = let other = ne_eqb (48 + n) s (λ e. omega arith) in rw other refl

pub holds_none : (s : ℕ) (v w : List ℕ) → holds s v ≡ false → holds s w ≡ false → holds s (v ++ w) ≡ false
holds_none s v w p q = rw (list_any-append (λ c. eqb c s) v w, p, q) refl

record IsNumeral (n : ℕ) (ds : List ℕ) : Type 0 where
  value : number_from 0 ds ≡ Some n
  space : holds 32 ds ≡ false
  newline : holds 10 ds ≡ false

numeral_more : (n : ℕ) (ds : List ℕ) → 10 ≤ n → IsNumeral (n / 10) ds → IsNumeral n (ds ++ (48 + n % 10) ∷ [])
numeral_more n ds le prefix = record {
  value = number_from-append 0 ds ((48 + n % 10) ∷ []) ∙ ap (option_and_then (λ m. number_from m ((48 + n % 10) ∷ []))) prefix.value
      ∙ number_digit (n / 10) (n % 10) (omega arith) ∙ ap Some (let e : n / 10 * 10 + n % 10 ≡ n = omega arith in e);
  space = holds_none 32 ds _ prefix.space (digit_apart 32 (n % 10) (omega arith));
  newline = holds_none 10 ds _ prefix.newline (digit_apart 10 (n % 10) (omega arith));
}

numeral : (n : ℕ) → n < 2 ^ 64 → IsNumeral n (decimal n)
numeral = decimal_by_steps IsNumeral
    (λ n lt. record {
      value = number_digit 0 n lt ∙ ap Some (let e : 0 * 10 + n ≡ n = omega arith in e);
      space = digit_apart 32 n (omega arith);
      newline = digit_apart 10 n (omega arith);
    })
    numeral_more

several : (ds : List ℕ) → 48 < get_or ds 0 0 → number_of ds ≡ number_from 0 ds
several [] lt = absurd (omega arith)
several (c ∷ []) lt = refl
several (c ∷ d ∷ ds) lt = let other = ne_eqb c 48 (λ e. omega arith) in rw other refl

pub number_of-decimal : (n : ℕ) → n < 2 ^ 64 → number_of (decimal n) ≡ Some n
number_of-decimal n lt = elim (cases_lt 0 n) [
  | inl some ↦ several (decimal n) (first_decimal n some lt) ∙ (numeral n lt).value
  | inr none ↦ (let e : n ≡ 0 = omega arith in subst (λ (m : ℕ). number_of (decimal m) ≡ Some m) (sym e) (ap number_of (decimal_digit 0 (omega arith))))
]

below_bound : (bound n : ℕ) → n < bound → below bound (Some n) ≡ Some n
below_bound bound n lt = let less = lt-ltb n bound lt in rw less refl

pub first_number-decimal : (bound n : ℕ) (ws : List (List ℕ)) → n < bound → bound ≤ 2 ^ 64 → first_number bound (decimal n ∷ ws) ≡ Some (n, ws)
first_number-decimal bound n ws lt le =
    let value = number_of-decimal n (omega arith) in
    let within = below_bound bound n lt in
    rw (value, within) refl

-- a number doesn't begin with a minus sign
unsigned_first : (c n : ℕ) (ds : List ℕ) → number_of (c ∷ ds) ≡ Some n → c == 45 ≡ false
unsigned_first c n ds e = elim (cases_Bool (c == 45)) [
  | inl minus ↦ absurd (none c n ds (eqb-true c 45 minus) e)
  | inr other ↦ other
]
  where
    none : (c n : ℕ) (ds : List ℕ) → c ≡ 45 → number_of (c ∷ ds) ≡ Some n → ⊥
    none c n [] same e = (let f : number_of (45 ∷ []) ≡ Some n = subst (λ (d : ℕ). number_of (d ∷ []) ≡ Some n) same e in cc)
    none c n (d ∷ ds) same e = (let f : number_of (45 ∷ d ∷ ds) ≡ Some n = subst (λ (b : ℕ). number_of (b ∷ d ∷ ds) ≡ Some n) same e in cc)

signed_number-pos : (bound n : ℕ) (w : List ℕ) → number_of w ≡ Some n → n < bound → signed_number bound w ≡ Some (pos n)
signed_number-pos bound n [] e lt = absurd cc
signed_number-pos bound n (c ∷ ds) e lt =
    let other = unsigned_first c n ds e in
    let within = below_bound bound n lt in
    rw (other, e, within) refl

signed_number-decimal : (bound : ℕ) (z : ℤ) → unsigned_abs z < bound → bound ≤ 2 ^ 64 → signed_number bound (signed_decimal z) ≡ Some z
signed_number-decimal bound (pos n) lt le = signed_number-pos bound n (decimal n) (number_of-decimal n (omega arith)) lt
signed_number-decimal bound (negsuc n) lt le =
    let value = number_of-decimal (suc n) (omega arith) in
    let within = below_bound bound (suc n) lt in
    rw (value, within) refl

pub first_signed-decimal : (bound : ℕ) (z : ℤ) (ws : List (List ℕ)) → unsigned_abs z < bound → bound ≤ 2 ^ 64
    → first_signed bound (signed_decimal z ∷ ws) ≡ Some (z, ws)
first_signed-decimal bound z ws lt le = ap (option_map (λ y. (y, ws))) (signed_number-decimal bound z lt le)

pub all_numbers-decimal : (ns : List ℕ) → All (λ n. n < 2 ^ 32) ns → all_numbers (map decimal ns) ≡ Some ns
all_numbers-decimal [] lt = refl
all_numbers-decimal (n ∷ ns) lt =
    let first = All-head (λ (n : ℕ). n < 2 ^ 32) n ns lt in
    let value = number_of-decimal n (omega arith) in
    let within = below_bound (2 ^ 32) n first in
    let more = all_numbers-decimal ns (All-tail (λ (n : ℕ). n < 2 ^ 32) n ns lt) in
    rw (value, within, more) refl

-- ---- words

pub record IsWord (w : List ℕ) : Type 0 where
  pub space : holds 32 w ≡ false
  pub newline : holds 10 w ≡ false

abbrev pub AreWords : List (List ℕ) → Type 0
AreWords [] = Unit {0}
AreWords (w ∷ ws) = IsWord w × AreWords ws

pub word_decimal : (n : ℕ) → n < 2 ^ 64 → IsWord (decimal n)
word_decimal n lt = let d = numeral n lt in record { space = d.space; newline = d.newline }

pub word_signed : (z : ℤ) → unsigned_abs z < 2 ^ 64 → IsWord (signed_decimal z)
word_signed (pos n) lt = word_decimal n lt
word_signed (negsuc n) lt = (let d = word_decimal (suc n) lt in record { space = d.space; newline = d.newline })

pub words_decimal : (ns : List ℕ) → All (λ n. n < 2 ^ 32) ns → AreWords (map decimal ns)
words_decimal [] lt = tt
words_decimal (n ∷ ns) lt =
    let first = All-head (λ (n : ℕ). n < 2 ^ 32) n ns lt in
    (word_decimal n (omega arith), words_decimal ns (All-tail (λ (n : ℕ). n < 2 ^ 32) n ns lt))

-- ---- lines

pub split_at : (s : ℕ) (w more : List ℕ) → holds s w ≡ false → slice_split (λ b. eqb b s) (w ++ s ∷ more) ≡ w ∷ slice_split (λ b. eqb b s) more
split_at s [] more h = rw (eq-eqb s s refl) refl
split_at s (c ∷ w) more h =
    let o = or_parts (eqb c s) (holds s w) h in
    rw (o.0, split_at s w more o.1) refl

pub split_last : (s : ℕ) (w : List ℕ) → holds s w ≡ false → slice_split (λ b. eqb b s) w ≡ w ∷ []
split_last s [] h = refl
split_last s (c ∷ w) h =
    let o = or_parts (eqb c s) (holds s w) h in
    rw (o.0, split_last s w o.1) refl

-- a line without its newline
abbrev pub joined : List ℕ → List (List ℕ) → List ℕ
joined w ws = join_with_byte 32 (w ∷ ws)

pub line-joined : (w : List ℕ) (ws : List (List ℕ)) → line w ws ≡ joined w ws ++ 10 ∷ []
line-joined w [] = refl
line-joined w (v ∷ vs) = ap (λ (l : List ℕ). w ++ 32 ∷ l) (line-joined v vs) ∙ sym (append_assoc w (32 ∷ joined v vs) (10 ∷ []))

joined_newline : (w : List ℕ) (ws : List (List ℕ)) → IsWord w → AreWords ws → holds 10 (joined w ws) ≡ false
joined_newline w [] p q = p.newline
joined_newline w (v ∷ vs) p q = holds_none 10 w (32 ∷ joined v vs) p.newline (joined_newline v vs q.0 q.1)

words_joined : (w : List ℕ) (ws : List (List ℕ)) → IsWord w → AreWords ws → words_of (joined w ws) ≡ w ∷ ws
words_joined w [] p q = split_last 32 w p.space
words_joined w (v ∷ vs) p q = split_at 32 w (joined v vs) p.space ∙ ap (λ (l : List (List ℕ)). w ∷ l) (words_joined v vs q.0 q.1)

-- a printed line in front of a text
pub record IsFirst (words : List (List ℕ)) (text more : List ℕ) : Type 0 where
  pub prefix : List ℕ
  pub split : slice_split (λ b. eqb b 10) text ≡ prefix ∷ slice_split (λ b. eqb b 10) more
  pub told : words_of prefix ≡ words

pub first_line : (w : List ℕ) (ws : List (List ℕ)) (more : List ℕ) → IsWord w → AreWords ws → IsFirst (w ∷ ws) (line w ws ++ more) more
first_line w ws more p q = record {
  prefix = joined w ws;
  split = ap (λ (l : List ℕ). slice_split (λ b. eqb b 10) (l ++ more)) (line-joined w ws)
      ∙ ap (slice_split (λ b. eqb b 10)) (append_assoc (joined w ws) (10 ∷ []) more)
      ∙ split_at 10 (joined w ws) more (joined_newline w ws p q);
  told = words_joined w ws p q;
}
