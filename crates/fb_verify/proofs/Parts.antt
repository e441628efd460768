-- The parts of a text between separators, the first one at a time.
use Rattle.std.proofs.Common.{◌≡◌, ℕ, ◌+◌, ◌<◌, Bool, false, List, [], ◌∷◌, length, take, drop, Some, None, eqb, refl, ap, ◌∙◌, inl, inr, arith, position}
use Rattle.std.specs.List.{slice_split, onto_first, position_or_len}
use Rattle.fb_verify.specs.Reports.{words_of}
use Rattle.fb_verify.specs.InternalWordsLeft.{has_no_word}
use Rattle.std.proofs.lemmas.Bool.{cases_Bool, cases_lt, lt-ltb, le-ltb}
use Rattle.std.proofs.lemmas.List.Splits.{slice_split_first, slice_split_none}
use Rattle.std.proofs.lemmas.List.Sums.{fails_before_first}

place_found : (p : ℕ → Bool) (xs : List ℕ) (i : ℕ) → position p xs ≡ Some i → (position_or_len p xs ≡ i) × (i < length xs)
place_found p xs i e = elim (cases_lt (position_or_len p xs) (length xs)) [
  | inl lt ↦ (let b = lt-ltb _ _ lt in let same : position_or_len p xs ≡ i = (let found = rw b at e in cc) in (same, omega arith))
  | inr ge ↦ absurd (let b = le-ltb _ _ ge in let found = rw b at e in cc)
]

-- a separator was found
pub split_found : (separator : ℕ) (xs : List ℕ) (i : ℕ) → position (λ b. eqb b separator) xs ≡ Some i
    → slice_split (λ b. eqb b separator) xs ≡ take i xs ∷ slice_split (λ b. eqb b separator) (drop (i + 1) xs)
split_found separator xs i e =
    let p = place_found (λ b. eqb b separator) xs i e in
    slice_split_first (λ b. eqb b separator) xs 0 (omega arith) ∙ ap (λ (k : ℕ). take k xs ∷ slice_split (λ b. eqb b separator) (drop (k + 1) xs)) p.0

-- there was none
pub split_alone : (separator : ℕ) (xs : List ℕ) → position (λ b. eqb b separator) xs ≡ None → slice_split (λ b. eqb b separator) xs ≡ xs ∷ []
split_alone separator xs e = elim (cases_lt (position_or_len (λ b. eqb b separator) xs) (length xs)) [
  | inl lt ↦ absurd (let b = lt-ltb _ _ lt in let found = rw b at e in cc)
  | inr ge ↦ slice_split_none (λ b. eqb b separator) xs (λ k d lt. fails_before_first (λ b. eqb b separator) xs k d (omega arith))
]

onto_some : (x : ℕ) (given : List (List ℕ)) → (part : List ℕ) × (parts : List (List ℕ)) × (onto_first x given ≡ part ∷ parts)
onto_some x [] = (x ∷ [], [], refl)
onto_some x (part ∷ parts) = (x ∷ part, parts, refl)

-- there is one part at least
pub some_part : (separator : ℕ) (xs : List ℕ) → (part : List ℕ) × (parts : List (List ℕ)) × (slice_split (λ b. eqb b separator) xs ≡ part ∷ parts)
some_part separator [] = ([], [], refl)
some_part separator (x ∷ xs) = elim (cases_Bool (eqb x separator)) [
  | inl e ↦ ([], slice_split (λ b. eqb b separator) xs, rw e refl)
  | inr e ↦ rw e (onto_some x (slice_split (λ b. eqb b separator) xs))
]

pub not_without_word : (text : List ℕ) → has_no_word (words_of text) ≡ false
not_without_word text = rw ((some_part 32 text).2) refl
