-- Parts of some bytes between places.
use Rattle.std.proofs.Common.{◌≡◌, ℕ, ◌+◌, ◌-◌, ◌<◌, ◌≤◌, false, List, [], ◌∷◌, ◌++◌, length, get_or, take, drop, refl, ap, ◌∙◌, arith, take-add}
use Rattle.std.proofs.lemmas.Bool.{ne_eqb}
use Rattle.std.proofs.lemmas.List.{drop-drop, drop_more}
use Rattle.fb_records.specs.Lines.{holds}
use Rattle.fb_records.specs.Steps.{part_of}
use Rattle.fb_records.proofs.LineLemmas.{holds_none}

pub part_none : (xs : List ℕ) (a : ℕ) → part_of xs a a ≡ []
part_none xs a = ap (λ (k : ℕ). take k (drop a xs)) (let e : a - a ≡ 0 = omega arith in e)

pub part_two : (xs : List ℕ) (a b c : ℕ) → a ≤ b → b ≤ c → part_of xs a c ≡ part_of xs a b ++ part_of xs b c
part_two xs a b c ab bc =
    ap (λ (k : ℕ). take k (drop a xs)) (let e : c - a ≡ (b - a) + (c - b) = omega arith in e)
    ∙ take-add (b - a) (c - b) (drop a xs)
    ∙ ap (λ (l : List ℕ). part_of xs a b ++ take (c - b) l) (drop-drop (b - a) a xs ∙ ap (λ (k : ℕ). drop k xs) (let e : a + (b - a) ≡ b = omega arith in e))

pub take_part : (xs : List ℕ) (a b : ℕ) → a ≤ b → take b xs ≡ take a xs ++ part_of xs a b
take_part xs a b ab = ap (λ (k : ℕ). take k xs) (let e : b ≡ a + (b - a) = omega arith in e) ∙ take-add a (b - a) xs

part_one : (xs : List ℕ) (i : ℕ) → i < length xs → part_of xs i (i + 1) ≡ get_or xs i 0 ∷ []
part_one xs i lt =
    ap (λ (k : ℕ). take k (drop i xs)) (let e : i + 1 - i ≡ 1 = omega arith in e) ∙ ap (take 1) (drop_more xs i 0 lt)

-- one more byte
pub part_more : (xs : List ℕ) (a i : ℕ) → a ≤ i → i < length xs → part_of xs a (i + 1) ≡ part_of xs a i ++ get_or xs i 0 ∷ []
part_more xs a i le lt = part_two xs a i (i + 1) le (omega arith) ∙ ap (λ (l : List ℕ). part_of xs a i ++ l) (part_one xs i lt)

-- a part whose next byte is none that is looked for
pub part_holds_more : (s : ℕ) (xs : List ℕ) (a i : ℕ) → a ≤ i → i < length xs → (get_or xs i 0 ≡ s → ⊥) → holds s (part_of xs a i) ≡ false → holds s (part_of xs a (i + 1)) ≡ false
part_holds_more s xs a i le lt other h =
    ap (holds s) (part_more xs a i le lt) ∙ holds_none s (part_of xs a i) (get_or xs i 0 ∷ []) h (rw (ne_eqb (get_or xs i 0) s other) refl)
