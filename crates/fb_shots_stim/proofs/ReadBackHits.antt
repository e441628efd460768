-- Texts of shots in `hits` are read back.
use Rattle.std.proofs.Common.{◌≡◌, ℕ, zero, suc, ◌+◌, ◌-◌, ◌*◌, ◌/◌, ◌%◌, ◌^◌, ◌<◌, ◌≤◌, Bool, true, false, eqb, List, [], ◌∷◌, ◌++◌, length, map, decimal, Some, None, Result, Ok, Option, refl, sym, ap, subst, ◌∙◌, append_assoc, inl, inr, arith}
use Rattle.std.specs.List.{list_any}
use Rattle.std.specs.Int.Digits.{digits_of}
use Rattle.std.proofs.lemmas.Int.Digits.{digits_of_step, length-digits_of-le}
use Rattle.std.proofs.lemmas.Fmt.{decimal-digits_of, decimal_digit, decimal_nonempty}
use Rattle.std.proofs.lemmas.Bool.{cases_Bool, cases_eq, ne_eqb, lt-ltb, le-leb, and_from, or_parts, eqb-true}
use Rattle.std.proofs.lemmas.List.{append-nil, length-append}
use Rattle.std.proofs.lemmas.List.{map-append}
use Rattle.fb_records.specs.Records.{with_first_shot, with_line}
use Rattle.fb_records.specs.Lines.{holds, last_part, without_return, bare}
use Rattle.fb_records.proofs.LineLemmas.{whole_parts_none, whole_parts_one, last_part_none, last_part_one, holds_none}
use Rattle.fb_records.proofs.RecordLemmas.{records_one}
use Rattle.fb_shots_stim.specs.declared.answer.Kind.{Kind}
use Rattle.fb_shots_stim.specs.NamedDetectors.{is_digit, number_from, index_of, shot_of}
use Rattle.fb_shots_stim.specs.TextHits.{ended_hits, hits_of, with_hit, with_hits, line_hits, records_hits}
use Rattle.fb_shots_stim.specs.InternalRises.{Rises}
use Rattle.fb_shots_stim.specs.CodedShots.{ones_from, with_commas, coded_hits, ReadsBack}
use Rattle.fb_shots_stim.proofs.LemmasR8.{rises_more, rises_higher}
use Rattle.fb_shots_stim.proofs.NamedLemmas.{filter_rises}
use Rattle.fb_shots_stim.proofs.ShotLemmas.{rises_lower}
use Rattle.fb_shots_stim.proofs.ReadBack.{reads_all}

-- ---- decimal digits

number_step : (value c : ℕ) (digits : List ℕ) → is_digit c ≡ true → number_from value (c ∷ digits) ≡ number_from (value * 10 + (c - 48)) digits
number_step value c digits e = rw e refl

-- a number and one more digit
number_more : (value number c : ℕ) (digits : List ℕ) → number_from value digits ≡ Some number → is_digit c ≡ true → number_from value (digits ++ c ∷ []) ≡ Some (number * 10 + (c - 48))
number_more value number c [] e digit = number_step value c [] digit ∙ ap (λ (k : ℕ). Some (k * 10 + (c - 48))) (let same : value ≡ number = cc in same)
number_more value number c (d ∷ digits) e digit = elim (cases_Bool (is_digit d)) [
  | inl h ↦ number_step value d (digits ++ c ∷ []) h ∙ number_more (value * 10 + (d - 48)) number c digits (sym (number_step value d digits h) ∙ e) digit
  | inr h ↦ absurd (let none : number_from value (d ∷ digits) ≡ None = rw h refl in cc)
]

digit_of : (d : ℕ) → d < 10 → is_digit (48 + d) ≡ true
digit_of d lt = and_from _ _ (le-leb 48 (48 + d) (omega arith)) (le-leb (48 + d) 57 (omega arith))

abbrev ReadDigits : ℕ → Type 0
ReadDigits n = number_from 0 (map (λ d. 48 + d) (digits_of 10 n)) ≡ Some n

no_digits : (n : ℕ) → n ≡ 0 → ReadDigits n
no_digits n e = subst ReadDigits (sym e) (ap (λ (ds : List ℕ). number_from 0 (map (λ d. 48 + d) ds)) (empty (digits_of 10 0) (length-digits_of-le 10 0 0 (omega arith) (omega arith)))) where
  empty : (ds : List ℕ) → length ds ≤ 0 → ds ≡ []
  empty [] le = refl
  empty (d ∷ ds) le = absurd (omega arith)

digits_read : (fuel n : ℕ) → n < fuel → 0 < n → ReadDigits n
digits_read zero n lt some = absurd (omega arith)
digits_read (suc fuel) n lt some =
    let digits = λ (m : ℕ). map (λ d. 48 + d) (digits_of 10 m) in
    let step : digits n ≡ digits (n / 10) ++ (48 + n % 10) ∷ [] =
    ap (map (λ d. 48 + d)) (digits_of_step 10 n (omega arith) some) ∙ map-append (λ d. 48 + d) (digits_of 10 (n / 10)) (n % 10 ∷ []) in
    let front : ReadDigits (n / 10) = elim (cases_eq (n / 10) 0) [
      | inl e ↦ no_digits (n / 10) e
      | inr ne ↦ digits_read fuel (n / 10) (omega arith) (omega arith)
    ] in
    ap (number_from 0) step
    ∙ number_more 0 (n / 10) (48 + n % 10) (digits (n / 10)) front (digit_of (n % 10) (omega arith))
    ∙ ap (λ (k : ℕ). Some k) (let e : n / 10 * 10 + (48 + n % 10 - 48) ≡ n = omega arith in e)

-- a number's digits are an index, which is that number
decimal_read : (n : ℕ) → n < 2 ^ 64 → index_of (decimal n) ≡ Some n
decimal_read n small = elim (cases_eq n 0) [
  | inl e ↦ subst (λ (m : ℕ). index_of (decimal m) ≡ Some m) (sym e) (ap index_of (decimal_digit 0 (omega arith)))
  | inr ne ↦ as_index (decimal n) n (ap (number_from 0) (decimal-digits_of n (omega arith) small) ∙ digits_read (suc n) n (omega arith) (omega arith)) (decimal_nonempty n small)
]
  where
    as_index : (digits : List ℕ) (n : ℕ) → number_from 0 digits ≡ Some n → 0 < length digits → index_of digits ≡ Some n
    as_index [] n e some = absurd (omega arith)
    as_index (d ∷ digits) n e some = e

-- a byte that is no digit isn't in a number
digit_other : (c d : ℕ) → is_digit d ≡ true → is_digit c ≡ false → eqb d c ≡ false
digit_other c d h n = elim (cases_Bool (eqb d c)) [
  | inl e ↦ absurd (let same = ap is_digit (eqb-true d c e) in cc)
  | inr e ↦ e
]

number_holds : (c value number : ℕ) (digits : List ℕ) → is_digit c ≡ false → number_from value digits ≡ Some number → holds c digits ≡ false
number_holds c value number [] n e = refl
number_holds c value number (d ∷ digits) n e = elim (cases_Bool (is_digit d)) [
  | inl h ↦ rw (digit_other c d h n, number_holds c (value * 10 + (d - 48)) number digits n (sym (number_step value d digits h) ∙ e)) refl
  | inr h ↦ absurd (let none : number_from value (d ∷ digits) ≡ None = rw h refl in cc)
]

index_holds : (c k : ℕ) (word : List ℕ) → is_digit c ≡ false → index_of word ≡ Some k → (holds c word ≡ false) × (0 < length word)
index_holds c k [] n e = absurd cc
index_holds c k (d ∷ word) n e = (number_holds c 0 k (d ∷ word) n e, omega arith)

-- ---- words with commas between them

-- words that are the indices of these numbers
abbrev pub AreIndices : List (List ℕ) → List ℕ → Type 0
AreIndices [] [] = Unit {0}
AreIndices [] (k ∷ ks) = ⊥
AreIndices (word ∷ words) [] = ⊥
AreIndices (word ∷ words) (k ∷ ks) = (index_of word ≡ Some k) × AreIndices words ks

decimals_are : (n : ℕ) (ks : List ℕ) (low : ℕ) → n ≤ 2 ^ 64 → Rises low n ks → AreIndices (map decimal ks) ks
decimals_are n [] low small r = tt
decimals_are n (k ∷ ks) low small r = let lt : k < n = r.1 in (decimal_read k (omega arith), decimals_are n ks (k + 1) small r.2)

commas_hold : (c : ℕ) (words : List (List ℕ)) (ks : List ℕ) → is_digit c ≡ false → eqb 44 c ≡ false → AreIndices words ks → holds c (with_commas words) ≡ false
commas_hold c [] ks n other are = refl
commas_hold c (word ∷ words) [] n other are = absurd are
commas_hold c (word ∷ []) (k ∷ ks) n other are = (index_holds c k word n are.0).0
commas_hold c (word ∷ next ∷ words) (k ∷ ks) n other are =
    holds_none c word (44 ∷ with_commas (next ∷ words)) (index_holds c k word n are.0).0 (rw other (commas_hold c (next ∷ words) ks n other are.1))

-- the parts of a line that isn't empty
some_hits : (line : List ℕ) → 0 < length line → hits_of line ≡ ended_hits line ++ last_part 44 line ∷ []
some_hits [] some = absurd (omega arith)
some_hits (b ∷ line) some = refl

commas_some : (word : List ℕ) (words : List (List ℕ)) → 0 < length word → 0 < length (with_commas (word ∷ words))
commas_some word [] some = some
commas_some word (next ∷ words) some = omega (arith, length-append word (44 ∷ with_commas (next ∷ words)))

word_some : (next : List ℕ) (words : List (List ℕ)) (ks : List ℕ) → AreIndices (next ∷ words) ks → 0 < length next
word_some next words [] are = absurd are
word_some next words (k ∷ ks) are = (index_holds 44 k next refl are.0).1

hits_with_commas : (words : List (List ℕ)) (ks : List ℕ) → AreIndices words ks → hits_of (with_commas words) ≡ words
hits_with_commas [] ks are = refl
hits_with_commas (word ∷ words) [] are = absurd are
hits_with_commas (word ∷ []) (k ∷ ks) are =
    let known = index_holds 44 k word refl are.0 in
    some_hits word known.1
    ∙ ap (λ (ps : List (List ℕ)). ps ++ last_part 44 word ∷ []) (whole_parts_none 44 word known.0)
    ∙ ap (λ (l : List ℕ). l ∷ []) (last_part_none 44 word known.0)
hits_with_commas (word ∷ next ∷ words) (k ∷ ks) are =
    let known = index_holds 44 k word refl are.0 in
    let rest = with_commas (next ∷ words) in
    some_hits (word ++ 44 ∷ rest) (omega (arith, length-append word (44 ∷ rest)))
    ∙ ap (λ (ps : List (List ℕ)). ps ++ last_part 44 (word ++ 44 ∷ rest) ∷ []) (whole_parts_one 44 word rest known.0)
    ∙ ap (λ (l : List ℕ). word ∷ (ended_hits rest ++ l ∷ [])) (last_part_one 44 word rest)
    ∙ ap (λ (ps : List (List ℕ)). word ∷ ps) (sym (some_hits rest (commas_some next words (word_some next words ks are.1))) ∙ hits_with_commas (next ∷ words) ks are.1)

-- ---- a line

-- a larger number isn't named yet
not_named : (k low high : ℕ) (named : List ℕ) → Rises low high named → high ≤ k → list_any (eqb k) named ≡ false
not_named k low high [] r le = refl
not_named k low high (x ∷ named) r le =
    let lt : x < high = r.1 in
    rw (ne_eqb k x (λ (e : k ≡ x). omega arith)) (not_named k (x + 1) high named r.2 le)

one_more : (n k : ℕ) (named word : List ℕ) → Rises 0 k named → k < n → index_of word ≡ Some k → with_hit n (Some named) word ≡ Ok (Some (named ++ k ∷ []))
one_more n k named word r lt e = rw (e, lt-ltb k n lt, not_named k 0 k named r (omega arith)) refl

hits_read : (n low : ℕ) (named : List ℕ) (words : List (List ℕ)) (ks : List ℕ) → Rises 0 low named → Rises low n ks → AreIndices words ks → with_hits n (Ok (Some named)) words ≡ Ok (Some (named ++ ks))
hits_read n low named [] [] before r are = ap (λ (l : List ℕ). Ok (Some l)) (sym (append-nil named))
hits_read n low named [] (k ∷ ks) before r are = absurd are
hits_read n low named (word ∷ words) [] before r are = absurd are
hits_read n low named (word ∷ words) (k ∷ ks) before r are =
    let le : low ≤ k = r.0 in
    ap (λ (x : Result (Option (List ℕ)) Kind). with_hits n x words) (one_more n k named word (rises_higher 0 low k named before le) r.1 are.0)
    ∙ hits_read n (k + 1) (named ++ k ∷ []) words ks (rises_more 0 low (k + 1) k named before (omega arith) le (omega arith)) r.2 are.1
    ∙ ap (λ (l : List ℕ). Ok (Some l)) (append_assoc named (k ∷ []) ks)

ones_rise : (i n : ℕ) (bits : List Bool) → i + length bits ≤ n → Rises i n (ones_from i bits)
ones_rise i n [] fits = tt
ones_rise i n (true ∷ bits) fits = (omega arith, omega arith, ones_rise (i + 1) n bits (omega arith))
ones_rise i n (false ∷ bits) fits = rises_lower i (i + 1) n (ones_from (i + 1) bits) (omega arith) (ones_rise (i + 1) n bits (omega arith))

return_none : (line : List ℕ) → holds 13 line ≡ false → without_return line ≡ line
return_none [] h = refl
return_none (b ∷ []) h = rw (or_parts (eqb b 13) false h).0 refl
return_none (b ∷ c ∷ line) h = ap (λ (l : List ℕ). b ∷ l) (return_none (c ∷ line) (or_parts (eqb b 13) (holds 13 (c ∷ line)) h).1)

first_hits : (n : ℕ) (bits : List Bool) (more : List ℕ) → n ≤ 2 ^ 64 → length bits ≡ n → records_hits n (coded_hits bits ++ more) ≡ with_first_shot (ones_from 0 bits) (records_hits n more)
first_hits n bits more small e =
    let ks = ones_from 0 bits in
    let words = map decimal ks in
    let line = with_commas words in
    let r : Rises 0 n ks = ones_rise 0 n bits (omega arith) in
    let are = decimals_are n ks 0 small r in
    let judged : line_hits n (without_return line) ≡ Ok (Some ks) =
    ap (line_hits n) (return_none line (commas_hold 13 words ks refl refl are))
    ∙ ap (λ (ws : List (List ℕ)). shot_of n (with_hits n (Ok (Some [])) ws)) (hits_with_commas words ks are)
    ∙ ap (shot_of n) (hits_read n 0 [] words ks tt r are)
    ∙ ap (λ (l : List ℕ). Ok (Some l)) (filter_rises n 0 n ks (omega arith) r) in
    ap (records_hits n) (append_assoc line (10 ∷ []) more)
    ∙ records_one (bare (line_hits n)) line more (commas_hold 10 words ks refl refl are)
    ∙ ap (λ (x : Result (Option (List ℕ)) Kind). with_line x (records_hits n more)) judged

pub reads_back_hits : ReadsBack records_hits coded_hits
reads_back_hits n shots some small all = reads_all records_hits coded_hits n refl (λ bits more e. first_hits n bits more (omega arith) e) shots all
