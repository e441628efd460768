-- Bits of bytes, and what `b8` comes to by the first block.
use Rattle.std.specs.Prelude.{if◌then◌else◌}
use Rattle.std.proofs.Common.{◌≡◌, ℕ, zero, suc, ◌+◌, ◌-◌, ◌*◌, ◌/◌, ◌%◌, ◌^◌, ◌<◌, ◌≤◌, Bool, true, false, not, eqb, List, [], ◌∷◌, ◌++◌, length, get_or, take, drop, Option, Some, Result, Ok, Err, refl, sym, ap, subst, ◌∙◌, inl, inr, arith, add-one}
use Rattle.std.specs.List.{list_any}
use Rattle.std.proofs.Math.Nat.{div-one, div-eq_of_lt, mod-eq_of_lt, div-eq-sub-div, mod-eq-sub-mod, div-mul-le_self}
use Rattle.std.proofs.lemmas.Bool.{cases_Bool, cases_eq, eq-eqb, ne_eqb, or_parts, cond-true, cond-false}
use Rattle.std.proofs.lemmas.Nat.{shr-shr, shr_below, le-div}
use Rattle.std.proofs.lemmas.List.{append-nil, length-append, length-take-le, length-drop, take_all, take_more, drop_all, drop_at, drop-drop, take-append-drop, take-append-le, drop-append-le}
use Rattle.std.proofs.lemmas.List.Concat.{flat_map-append}
use Rattle.fb_shots_stim.specs.declared.answer.Kind.{Kind}
use Rattle.fb_shots_stim.specs.declared.answer.Kind.TheVariants.{ShortRecord, LongRecord, PaddingBit}
use Rattle.fb_records.specs.declared.answer.Next.TheVariants.{Shot, NotYet, Refused}
use Rattle.fb_records.specs.Records.{Ending, at_end, still_open, refused, Records, only, with_line, go_down, GoesOn}
use Rattle.fb_shots_stim.specs.Shots.{places_from}
use Rattle.fb_records.specs.Answers.{GoesOnAnywhere}
use Rattle.fb_shots_stim.specs.BlocksB8.{block_len, low_bits, bits_of, is_set, block_b8, blocks, whole_blocks, records_b8, prefix_b8}
use Rattle.fb_shots_stim.specs.InternalAnswers.{AnswersB8}
use Rattle.fb_records.proofs.RecordLemmas.{go_down_goes_on}

-- ---- places

pub places_append : (p : ℕ → Bool) (i : ℕ) (xs ys : List ℕ) → places_from p i (xs ++ ys) ≡ places_from p i xs ++ places_from p (i + length xs) ys
places_append p i [] ys = ap (λ (k : ℕ). places_from p k ys) (omega arith)
places_append p i (x ∷ xs) ys =
    let next = places_append p (i + 1) xs ys ∙ ap (λ (k : ℕ). places_from p (i + 1) xs ++ places_from p k ys) (omega arith) in
    elim (cases_Bool (p x)) [
      | inl e ↦ rw e (ap (λ (l : List ℕ). i ∷ l) next)
      | inr e ↦ rw e next
    ]

pub places_none : (p : ℕ → Bool) (i : ℕ) (xs : List ℕ) → list_any p xs ≡ false → places_from p i xs ≡ []
places_none p i [] h = refl
places_none p i (x ∷ xs) h =
    let o = or_parts (p x) (list_any p xs) h in
    rw (o.0) (places_none p (i + 1) xs o.1)

-- ---- bits

pub low_none : (count i : ℕ) → places_from is_set i (low_bits count 0) ≡ []
unfolding low_bits
low_none zero i = refl
low_none (suc count) i = low_none count (i + 1)

pub length_low : (count m : ℕ) → length (low_bits count m) ≡ count
unfolding low_bits
length_low zero m = refl
length_low (suc count) m = ap suc (length_low count (m / 2))

pub length_bits : (block : List ℕ) → length (bits_of block) ≡ length block * 8
length_bits [] = refl
length_bits (b ∷ block) = omega (arith, length-append (low_bits 8 b) (bits_of block), length_low 8 b, length_bits block)

-- a bit is set exactly where the number isn't 0
pub any_low : (count m : ℕ) → m < 2 ^ count → list_any is_set (low_bits count m) ≡ not (eqb m 0)
unfolding low_bits
any_low zero m lt = rw (eq-eqb m 0 (omega arith)) refl
any_low (suc count) m lt = elim (cases_eq (m % 2) 1) [
  | inl e ↦ rw (eq-eqb (m % 2) 1 e, ne_eqb m 0 (λ (z : m ≡ 0). omega arith)) refl
  | inr e ↦
      let below : m < 2 ^ (count + 1) = rw add-one lt in
      let half : m / 2 < 2 ^ count = shr_below m count 1 below in
      rw (ne_eqb (m % 2) 1 e) (any_low count (m / 2) half ∙ ap not (same_zero m e))
]
  where
    same_zero : (m : ℕ) → (m % 2 ≡ 1 → ⊥) → eqb (m / 2) 0 ≡ eqb m 0
    same_zero m e = elim (cases_eq m 0) [
      | inl z ↦ rw (z) refl
      | inr n ↦ rw (ne_eqb m 0 n, ne_eqb (m / 2) 0 (λ (z : m / 2 ≡ 0). n (omega arith))) refl
    ]

pub drop_low : (r count k m : ℕ) → count ≡ r + k → drop r (low_bits count m) ≡ low_bits k (m / 2 ^ r)
unfolding low_bits
drop_low zero count k m e = rw (div-one m) (ap (λ (c : ℕ). low_bits c m) (omega arith))
drop_low (suc r) zero k m e = absurd (omega arith)
drop_low (suc r) (suc count) k m e =
    drop_low r count k (m / 2) (omega arith) ∙ ap (low_bits k) (shr-shr m 1 r ∙ ap (λ (j : ℕ). m / 2 ^ j) (omega arith))

-- ---- a block

-- the bits after the last detector's are those of the last byte
padding_none : (n : ℕ) (block : List ℕ) → length block ≡ block_len n → n % 8 ≡ 0 → drop n (bits_of block) ≡ []
padding_none n block size e = drop_all n (bits_of block) (omega (arith, length_bits block))

padding_some : (n : ℕ) (block : List ℕ) → length block ≡ block_len n → (n % 8 ≡ 0 → ⊥) → drop n (bits_of block) ≡ low_bits (8 - n % 8) (get_or block (length block - 1) 0 / 2 ^ (n % 8))
padding_some n block size some =
    let last = get_or block (length block - 1) 0 in
    let prefix = take (length block - 1) block in
    let within : length block - 1 < length block = omega arith in
    let cut : block ≡ prefix ++ last ∷ [] = sym (take_all (length block - 1 + 1) block (omega arith)) ∙ take_more block (length block - 1) 0 within in
    let bits : bits_of block ≡ bits_of prefix ++ low_bits 8 last = ap bits_of cut ∙ flat_map-append (low_bits 8) prefix (last ∷ []) ∙ ap (λ (l : List ℕ). bits_of prefix ++ l) (append-nil (low_bits 8 last)) in
    let len : length (bits_of prefix) + n % 8 ≡ n = omega (arith, length_bits prefix, length-take-le (length block - 1) block (omega arith)) in
    ap (drop n) bits ∙ ap (λ (k : ℕ). drop k (bits_of prefix ++ low_bits 8 last)) (sym len)
    ∙ sym (drop-drop (n % 8) (length (bits_of prefix)) (bits_of prefix ++ low_bits 8 last))
    ∙ ap (drop (n % 8)) (drop_at (bits_of prefix) (low_bits 8 last) (length (bits_of prefix)) refl)
    ∙ drop_low (n % 8) 8 (8 - n % 8) last (omega arith)

pub has_padding_none : (n : ℕ) (block : List ℕ) → length block ≡ block_len n → n % 8 ≡ 0 → list_any is_set (drop n (bits_of block)) ≡ false
has_padding_none n block size e = ap (list_any is_set) (padding_none n block size e)

pub has_padding_some : (n : ℕ) (block : List ℕ) → length block ≡ block_len n → (n % 8 ≡ 0 → ⊥) → get_or block (length block - 1) 0 < 256 → list_any is_set (drop n (bits_of block)) ≡ not (eqb (get_or block (length block - 1) 0 / 2 ^ (n % 8)) 0)
has_padding_some n block size some byte =
    let last = get_or block (length block - 1) 0 in
    let split : 8 ≡ 8 - n % 8 + n % 8 = omega arith in
    let high : last < 2 ^ (8 - n % 8 + n % 8) = subst (λ (k : ℕ). last < 2 ^ k) split byte in
    ap (list_any is_set) (padding_some n block size some)
    ∙ any_low (8 - n % 8) (last / 2 ^ (n % 8)) (shr_below last (8 - n % 8) (n % 8) high)

-- the set bits of a block without padding are those of its detectors
pub places_of_block : (n : ℕ) (bits : List ℕ) → list_any is_set (drop n bits) ≡ false → places_from is_set 0 bits ≡ places_from is_set 0 (take n bits)
places_of_block n bits h =
    ap (places_from is_set 0) (sym (take-append-drop n bits)) ∙ places_append is_set 0 (take n bits) (drop n bits)
    ∙ ap (λ (l : List ℕ). places_from is_set 0 (take n bits) ++ l) (places_none is_set (0 + length (take n bits)) (drop n bits) h)
    ∙ append-nil (places_from is_set 0 (take n bits))

-- ---- blocks

blocks_none : (size : ℕ) (bytes : List ℕ) → length bytes < size → whole_blocks size bytes ≡ []
blocks_none size bytes lt = ap (λ (k : ℕ). blocks size k bytes) (div-eq_of_lt lt)

blocks_first : (size : ℕ) (bytes : List ℕ) → 0 < size → size ≤ length bytes → whole_blocks size bytes ≡ take size bytes ∷ whole_blocks size (drop size bytes)
blocks_first size bytes some le =
    let count : length bytes / size ≡ suc (length (drop size bytes) / size) =
    div-eq-sub-div some le ∙ add-one ((length bytes - size) / size) ∙ ap (λ (k : ℕ). suc (k / size)) (sym (length-drop size bytes)) in
    ap (λ (k : ℕ). blocks size k bytes) count

-- what stands first in a whole input of the blocks' length or more
records_first : (n : ℕ) (bytes : List ℕ) → block_len (suc n) ≤ length bytes
    → records_b8 (suc n) bytes ≡ with_line (block_b8 (suc n) (take (block_len (suc n)) bytes)) (records_b8 (suc n) (drop (block_len (suc n)) bytes))
records_first n bytes le =
    let size = block_len (suc n) in
    let left : length bytes % size ≡ length (drop size bytes) % size = mod-eq-sub-mod le ∙ ap (λ (k : ℕ). k % size) (sym (length-drop size bytes)) in
    ap (λ (k : ℕ). go_down (block_b8 (suc n)) (whole_blocks size bytes) (if eqb k 0 then at_end else refused ShortRecord)) left
    ∙ ap (λ (bs : List (List ℕ)). go_down (block_b8 (suc n)) bs (if eqb (length (drop size bytes) % size) 0 then at_end else refused ShortRecord)) (blocks_first size bytes (omega arith) le)

prefix_first : (n : ℕ) (bytes : List ℕ) → block_len (suc n) ≤ length bytes
    → prefix_b8 (suc n) bytes ≡ with_line (block_b8 (suc n) (take (block_len (suc n)) bytes)) (prefix_b8 (suc n) (drop (block_len (suc n)) bytes))
prefix_first n bytes le =
    ap (λ (bs : List (List ℕ)). go_down (block_b8 (suc n)) bs still_open) (blocks_first (block_len (suc n)) bytes (omega arith) le)

-- bytes of less than a block
records_short : (n b : ℕ) (bytes : List ℕ) → length (b ∷ bytes) < block_len (suc n) → records_b8 (suc n) (b ∷ bytes) ≡ only (refused ShortRecord)
records_short n b bytes lt =
    let size = block_len (suc n) in
    let some : eqb (length (b ∷ bytes) % size) 0 ≡ false = ne_eqb (length (b ∷ bytes) % size) 0 (λ (z : length (b ∷ bytes) % size ≡ 0). let e = mod-eq_of_lt lt in omega arith) in
    ap (λ (bs : List (List ℕ)). go_down (block_b8 (suc n)) bs (if eqb (length (b ∷ bytes) % size) 0 then at_end else refused ShortRecord)) (blocks_none size (b ∷ bytes) lt)
    ∙ ap (λ (t : Bool). only (if t then at_end else refused ShortRecord)) some

pub records_nothing : (n : ℕ) → records_b8 (suc n) [] ≡ only at_end
records_nothing n =
    let size = block_len (suc n) in
    let lt : 0 < size = omega arith in
    ap (λ (bs : List (List ℕ)). go_down (block_b8 (suc n)) bs (if eqb (0 % size) 0 then at_end else refused ShortRecord)) (blocks_none size [] lt)
    ∙ ap (λ (k : ℕ). only (if eqb k 0 then at_end else refused ShortRecord)) (mod-eq_of_lt lt)

pub prefix_short : (n : ℕ) (bytes : List ℕ) → length bytes < block_len (suc n) → prefix_b8 (suc n) bytes ≡ only still_open
prefix_short n bytes lt = ap (λ (bs : List (List ℕ)). go_down (block_b8 (suc n)) bs still_open) (blocks_none (block_len (suc n)) bytes lt)

-- ---- two pieces

blocks_two : (size count more : ℕ) (a b : List ℕ) → count * size ≤ length a → blocks size (count + more) (a ++ b) ≡ blocks size count a ++ blocks size more (drop (count * size) a ++ b)
blocks_two size zero more a b le =
    let none : 0 + more ≡ more = omega arith in
    let start : 0 ≡ 0 * size = omega arith in
    ap (λ (k : ℕ). blocks size k (a ++ b)) none ∙ ap (λ (k : ℕ). blocks size more (drop k a ++ b)) start
blocks_two size (suc count) more a b le =
    let within : size ≤ length a = omega arith in
    let next : suc count + more ≡ suc (count + more) = omega arith in
    let skipped : size + count * size ≡ suc count * size = omega arith in
    ap (λ (k : ℕ). blocks size k (a ++ b)) next
    ∙ ap (λ (l : List ℕ). l ∷ blocks size (count + more) (drop size (a ++ b))) (take-append-le size a b within)
    ∙ ap (λ (l : List ℕ). take size a ∷ blocks size (count + more) l) (drop-append-le size a b within)
    ∙ ap (λ (bs : List (List ℕ)). take size a ∷ bs) (blocks_two size count more (drop size a) b (omega (arith, length-drop size a)))
    ∙ ap (λ (l : List ℕ). take size a ∷ (blocks size count (drop size a) ++ blocks size more (l ++ b))) (drop-drop (count * size) size a ∙ ap (λ (k : ℕ). drop k a) skipped)

whole_blocks_two : (size : ℕ) (a b : List ℕ) → 0 < size → (more : List (List ℕ)) × (whole_blocks size (a ++ b) ≡ whole_blocks size a ++ more)
whole_blocks_two size a b some =
    let count = length a / size in
    let all = length (a ++ b) / size in
    let fits : count * size ≤ length a = div-mul-le_self (length a) size in
    let most : count ≤ all = le-div count (length (a ++ b)) size some (omega (arith, length-append a b)) in
    let more = all - count in
    let sum : all ≡ count + more = omega arith in
    (blocks size more (drop (count * size) a ++ b), ap (λ (k : ℕ). blocks size k (a ++ b)) sum ∙ blocks_two size count more a b fits)

blocks_go_on : (n : ℕ) (a b : List ℕ) (ending : Ending Kind) → GoesOn (prefix_b8 (suc n) a) (go_down (block_b8 (suc n)) (whole_blocks (block_len (suc n)) (a ++ b)) ending)
blocks_go_on n a b ending =
    let two = whole_blocks_two (block_len (suc n)) a b (omega arith) in
    subst (λ (bs : List (List ℕ)). GoesOn (prefix_b8 (suc n) a) (go_down (block_b8 (suc n)) bs ending)) (sym two.1)
    (go_down_goes_on (block_b8 (suc n)) (whole_blocks (block_len (suc n)) a) two.0 still_open ending (λ kind e. absurd cc))

pub goes_on_b8 : GoesOnAnywhere records_b8 prefix_b8
goes_on_b8 zero [] more = (nothing (records_b8 zero more), nothing (prefix_b8 zero more)) where
  nothing : (all : Records (List ℕ) Kind) → GoesOn (only still_open) all
  nothing all = record { shots = (all.shots, refl); judged = λ kind e. absurd cc }
goes_on_b8 zero (b ∷ bytes) more = (same (only (refused LongRecord)), same (only (refused LongRecord))) where
  same : (all : Records (List ℕ) Kind) → GoesOn all all
  same all = record { shots = ([], sym (append-nil all.shots)); judged = λ kind e. refl }
goes_on_b8 (suc n) bytes more = (blocks_go_on n bytes more _, blocks_go_on n bytes more still_open)

-- ---- answers

true_false : {P : Type 0} → true ≡ false → P
true_false e = absurd cc

-- bytes, and no whole block
pub none_fits : (n : ℕ) (rest : List ℕ) (finished : Bool) → n ≡ 0 → 0 < length rest → AnswersB8 n rest finished rest (Refused LongRecord)
none_fits zero [] finished e some = absurd (omega arith)
none_fits zero (b ∷ bytes) finished e some = (record { now = refl; so_far = λ _. refl; later = λ _ more. refl }, refl)
none_fits (suc n) rest finished e some = absurd (omega arith)

pub short_end : (n : ℕ) (rest : List ℕ) (finished : Bool) → 0 < n → 0 < length rest → length rest < block_len n → finished ≡ true → AnswersB8 n rest finished rest (Refused ShortRecord)
short_end zero rest finished some bytes lt e = absurd (omega arith)
short_end (suc n) [] finished some bytes lt e = absurd (omega arith)
short_end (suc n) (b ∷ rest) false some bytes lt e = true_false (sym e)
short_end (suc n) (b ∷ rest) true some bytes lt e = (record { now = records_short n b rest lt; so_far = λ o. true_false o; later = λ o. true_false o }, refl)

pub short_open : (n : ℕ) (rest : List ℕ) (finished : Bool) → 0 < n → length rest < block_len n → finished ≡ false → AnswersB8 n rest finished rest NotYet
short_open zero rest finished some lt e = absurd (omega arith)
short_open (suc n) rest finished some lt e = (e, prefix_short n rest lt, refl)

-- a whole block
pub block_gives : (n : ℕ) (rest : List ℕ) (finished : Bool) (given : Result (Option (List ℕ)) Kind) → block_len (suc n) ≤ length rest → block_b8 (suc n) (take (block_len (suc n)) rest) ≡ given
    → (records_b8 (suc n) rest ≡ with_line given (records_b8 (suc n) (drop (block_len (suc n)) rest))) × (prefix_b8 (suc n) rest ≡ with_line given (prefix_b8 (suc n) (drop (block_len (suc n)) rest)))
    × ((more : List ℕ) → records_b8 (suc n) (rest ++ more) ≡ with_line given (records_b8 (suc n) (drop (block_len (suc n)) rest ++ more)))
    × ((more : List ℕ) → prefix_b8 (suc n) (rest ++ more) ≡ with_line given (prefix_b8 (suc n) (drop (block_len (suc n)) rest ++ more)))
block_gives n rest finished given le e =
    let size = block_len (suc n) in (
      records_first n rest le ∙ ap (λ (g : Result (Option (List ℕ)) Kind). with_line g (records_b8 (suc n) (drop size rest))) e,
      prefix_first n rest le ∙ ap (λ (g : Result (Option (List ℕ)) Kind). with_line g (prefix_b8 (suc n) (drop size rest))) e,
      λ more. records_first n (rest ++ more) (omega (arith, length-append rest more))
          ∙ ap (λ (l : List ℕ). with_line (block_b8 (suc n) l) (records_b8 (suc n) (drop size (rest ++ more)))) (take-append-le size rest more le)
          ∙ ap (λ (l : List ℕ). with_line (block_b8 (suc n) (take size rest)) (records_b8 (suc n) l)) (drop-append-le size rest more le)
          ∙ ap (λ (g : Result (Option (List ℕ)) Kind). with_line g (records_b8 (suc n) (drop size rest ++ more))) e,
      λ more. prefix_first n (rest ++ more) (omega (arith, length-append rest more))
          ∙ ap (λ (l : List ℕ). with_line (block_b8 (suc n) l) (prefix_b8 (suc n) (drop size (rest ++ more)))) (take-append-le size rest more le)
          ∙ ap (λ (l : List ℕ). with_line (block_b8 (suc n) (take size rest)) (prefix_b8 (suc n) l)) (drop-append-le size rest more le)
          ∙ ap (λ (g : Result (Option (List ℕ)) Kind). with_line g (prefix_b8 (suc n) (drop size rest ++ more))) e,
    )

pub block_refused : (n : ℕ) (rest : List ℕ) (finished : Bool) → 0 < n → block_len n ≤ length rest → list_any is_set (drop n (bits_of (take (block_len n) rest))) ≡ true → AnswersB8 n rest finished rest (Refused PaddingBit)
block_refused zero rest finished some le h = absurd (omega arith)
block_refused (suc n) rest finished some le h =
    let given = block_gives n rest finished (Err PaddingBit) le (cond-true _ _ _ h) in
    (record { now = given.0; so_far = λ _. given.1; later = λ _ more. given.2 more }, refl)

pub block_shot : (n : ℕ) (rest : List ℕ) (finished : Bool) (shot : List ℕ) → 0 < n → block_len n ≤ length rest → list_any is_set (drop n (bits_of (take (block_len n) rest))) ≡ false
    → shot ≡ places_from is_set 0 (bits_of (take (block_len n) rest)) → AnswersB8 n rest finished (drop (block_len n) rest) (Shot shot)
block_shot zero rest finished shot some le h e = absurd (omega arith)
block_shot (suc n) rest finished shot some le h e =
    let size = block_len (suc n) in
    let block = take size rest in
    let judged : block_b8 (suc n) block ≡ Ok (Some shot) =
    cond-false _ _ _ h ∙ ap (λ (l : List ℕ). Ok (Some l)) (sym (e ∙ places_of_block (suc n) (bits_of block) h)) in
    let given = block_gives n rest finished (Ok (Some shot)) le judged in
    (record { shorter = omega (arith, length-drop size rest); now = given.0; so_far = λ _. given.1; later = λ _ more. given.2 more; onward = λ _ more. given.3 more }, refl)
