-- The detectors of a shot rise, and are among those that there are.
use Rattle.std.specs.Prelude.{if◌then◌else◌}
use Rattle.std.proofs.Common.{◌≡◌, ℕ, zero, suc, ◌+◌, ◌<◌, ◌≤◌, Bool, nat_lt, eqb, List, [], ◌∷◌, length, take, All, Option, Some, None, Result, Ok, Err, subst, arith}
use Rattle.std.specs.List.{list_any, list_all, filter, range_with_len}
use Rattle.std.specs.List.Sorted.{IsStrictlyIncreasing}
use Rattle.std.proofs.lemmas.Bool.{cond_both, ltb-false}
use Rattle.std.proofs.lemmas.List.{length-take}
use Rattle.std.proofs.lemmas.List.Elements.{All-nil, All-cons, All-head}
use Rattle.fb_shots_stim.specs.declared.answer.Kind.{Kind}
use Rattle.fb_shots_stim.specs.declared.answer.Kind.TheVariants.{BadByte, ShortRecord, LongRecord, PaddingBit}
use Rattle.fb_records.specs.Records.{Ending, at_end, Records, with_line, go_down, Reader}
use Rattle.fb_shots_stim.specs.Shots.{IsShotOf, places_from}
use Rattle.fb_records.specs.Lines.{lines_of, bare, without_return}
use Rattle.fb_records.specs.Answers.{Gives}
use Rattle.fb_shots_stim.specs.Text01.{is_bit, is_one, line_01, records_01}
use Rattle.fb_shots_stim.specs.BlocksB8.{block_len, bits_of, is_set, block_b8, whole_blocks, records_b8}
use Rattle.fb_shots_stim.specs.NamedDetectors.{rising}
use Rattle.fb_shots_stim.specs.InternalRises.{Rises}

-- ---- rising lists

pub rises_lower : (lower low high : ℕ) (xs : List ℕ) → lower ≤ low → Rises low high xs → Rises lower high xs
rises_lower lower low high [] le r = tt
rises_lower lower low high (x ∷ xs) le r = let first : low ≤ x = r.0 in (omega arith, r.1, r.2)

rises_up : (low high : ℕ) (xs : List ℕ) → Rises low high xs → IsStrictlyIncreasing xs
rises_up low high [] r k within = absurd (omega arith)
rises_up low high (x ∷ []) r k within = absurd (omega arith)
rises_up low high (x ∷ y ∷ xs) r zero within = let second : x + 1 ≤ y = r.2.0 in omega arith
rises_up low high (x ∷ y ∷ xs) r (suc k) within =
    let next : suc k + 1 ≡ suc (k + 1) = omega arith in
    rw next (rises_up (x + 1) high (y ∷ xs) r.2 k (omega arith))

rises_below : (low high : ℕ) (xs : List ℕ) → Rises low high xs → All (λ k. k < high) xs
rises_below low high [] r = All-nil (λ k. k < high)
rises_below low high (x ∷ xs) r = All-cons (λ k. k < high) x xs r.1 (rises_below (x + 1) high xs r.2)

pub rises_shot : (n : ℕ) (shot : List ℕ) → Rises 0 n shot → IsShotOf n shot
rises_shot n shot r = record { rising = rises_up 0 n shot r; below = rises_below 0 n shot r }

places_rise : (p : ℕ → Bool) (i n : ℕ) (xs : List ℕ) → i + length xs ≤ n → Rises i n (places_from p i xs)
places_rise p i n [] fits = tt
places_rise p i n (x ∷ xs) fits =
    let next = places_rise p (i + 1) n xs (omega arith) in
    cond_both (p x) (i ∷ places_from p (i + 1) xs) (places_from p (i + 1) xs) (Rises i n)
    (λ _. (omega arith, omega arith, next)) (λ _. rises_lower i (i + 1) n (places_from p (i + 1) xs) (omega arith) next)

filter_range_rises : (p : ℕ → Bool) (low count high : ℕ) → high ≡ low + count → Rises low high (filter p (range_with_len low count))
filter_range_rises p low zero high e = tt
filter_range_rises p low (suc count) high e =
    let later = filter p (range_with_len (low + 1) count) in
    let next = filter_range_rises p (low + 1) count high (omega arith) in
    cond_both (p low) (low ∷ later) later (Rises low high)
    (λ _. (omega arith, omega arith, next)) (λ _. rises_lower low (low + 1) high later (omega arith) next)

-- ---- a line or block

-- where a line or block is a shot, it is one of n detectors
abbrev pub IfJudged : ℕ → Result (Option (List ℕ)) Kind → Type 0
IfJudged n (Ok (Some shot)) = IsShotOf n shot
IfJudged n (Ok None) = Unit {0}
IfJudged n (Err kind) = Unit {0}

judged_01 : (n : ℕ) (line : List ℕ) → IfJudged n (line_01 n line)
judged_01 n line =
    let shot = places_from is_one 0 line in
    let exact : Result (Option (List ℕ)) Kind = if nat_lt (length line) n then Err ShortRecord else Ok (Some shot) in
    let fits : Result (Option (List ℕ)) Kind = if nat_lt n (length line) then Err LongRecord else exact in
    cond_both (list_all is_bit (take n line)) fits (Err BadByte) (IfJudged n)
    (λ _. cond_both (nat_lt n (length line)) (Err LongRecord) exact (IfJudged n) (λ _. tt)
    (λ e. cond_both (nat_lt (length line) n) (Err ShortRecord) (Ok (Some shot)) (IfJudged n) (λ _. tt)
    (λ _. rises_shot n shot (places_rise is_one 0 n line (omega (arith, ltb-false n (length line) e))))))
    (λ _. tt)

judged_b8 : (n : ℕ) (block : List ℕ) → IfJudged n (block_b8 n block)
judged_b8 n block =
    let bits = take n (bits_of block) in
    cond_both _ (Err PaddingBit) (Ok (Some (places_from is_set 0 bits))) (IfJudged n) (λ _. tt)
    (λ _. rises_shot n (places_from is_set 0 bits) (places_rise is_set 0 n bits (omega (arith, length-take n (bits_of block)))))

-- the detectors named are a shot
pub rising_shot : (n : ℕ) (named : List ℕ) → IsShotOf n (rising n named)
rising_shot n named = rises_shot n (rising n named) (filter_range_rises (λ k. list_any (eqb k) named) 0 n n (omega arith))

-- ---- what a text holds

all_judged : (n : ℕ) (judge : List ℕ → Result (Option (List ℕ)) Kind) → ((line : List ℕ) → IfJudged n (judge line)) → (lines : List (List ℕ)) (ending : Ending Kind) → All (IsShotOf n) (go_down judge lines ending).shots
all_judged n judge h [] ending = All-nil (IsShotOf n)
all_judged n judge h (line ∷ lines) ending = step n (judge line) (go_down judge lines ending) (h line) (all_judged n judge h lines ending) where
  step : (n : ℕ) (r : Result (Option (List ℕ)) Kind) (rest : Records (List ℕ) Kind) → IfJudged n r → All (IsShotOf n) rest.shots → All (IsShotOf n) (with_line r rest).shots
  step n (Ok (Some shot)) rest s all = All-cons (IsShotOf n) shot rest.shots s all
  step n (Ok None) rest s all = all
  step n (Err kind) rest s all = All-nil (IsShotOf n)

pub shots_01 : (n : ℕ) (bytes : List ℕ) → All (IsShotOf n) (records_01 n bytes).shots
shots_01 n bytes = all_judged n (bare (line_01 n)) (λ line. judged_01 n (without_return line)) (lines_of bytes) at_end

pub shots_b8 : (n : ℕ) (bytes : List ℕ) → All (IsShotOf n) (records_b8 n bytes).shots
shots_b8 zero [] = All-nil (IsShotOf 0)
shots_b8 zero (b ∷ bytes) = All-nil (IsShotOf 0)
shots_b8 (suc n) bytes = all_judged (suc n) (block_b8 (suc n)) (judged_b8 (suc n)) (whole_blocks (block_len (suc n)) bytes) _

-- a shot that is given is one of the text's
pub given_shot : (n : ℕ) (records prefix : List ℕ → Records (List ℕ) Kind) (old new : Reader ℕ) (shot : List ℕ) → ((bytes : List ℕ) → All (IsShotOf n) (records bytes).shots) → Gives records prefix old new shot → IsShotOf n shot
given_shot n records prefix old new shot shots g =
    All-head (IsShotOf n) shot (records new.rest).shots (subst (λ (r : Records (List ℕ) Kind). All (IsShotOf n) r.shots) g.now (shots old.rest))
