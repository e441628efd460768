-- A heap of places of which the least is first.
use Rattle.std.proofs.Common.{ℕ, ◌≡◌, ◌≤◌, false, List, [], ◌∷◌, map, All}
use Rattle.std.proofs.lemmas.List.Elements.{All-cons, All-head, All-nil}
use Rattle.std.proofs.lemmas.List.Sorted.{IsPermutation-map, le_from_greatest}
use Rattle.std.specs.BinaryHeap.{IsUpperBound}
use Rattle.std.specs.List.Sorted.{IsPermutation}
use Rattle.std.specs.Ordering.{nat_cmp, is_lt}
use Rattle.std.specs.declared.cmp.Reverse.{Reverse}

-- the places are the numbers in the heap
abbrev pub places_of : List (Reverse ℕ) → List ℕ
places_of xs = map (λ x. x.0) xs

pub pushed_places : (k : ℕ) (xs ys : List (Reverse ℕ)) → IsPermutation (record { 0 = k } ∷ xs) ys
    → IsPermutation (k ∷ places_of xs) (places_of ys)
pushed_places k xs ys h = IsPermutation-map (λ x. x.0) (record { 0 = k } ∷ xs) ys h

pub popped_places : (x : Reverse ℕ) (xs ys : List (Reverse ℕ)) → IsPermutation xs (x ∷ ys)
    → IsPermutation (places_of xs) (x.0 ∷ places_of ys)
popped_places x xs ys h = IsPermutation-map (λ x. x.0) xs (x ∷ ys) h

pub least_place : (x : Reverse ℕ) (xs : List (Reverse ℕ)) → IsUpperBound (λ a b. nat_cmp b.0 a.0) x xs
    → All (λ j. x.0 ≤ j) (places_of xs)
least_place x [] h = All-nil (λ j. x.0 ≤ j)
least_place x (y ∷ ys) h =
    All-cons (λ j. x.0 ≤ j) y.0 (places_of ys) (not_less x.0 y.0 h.0) (least_place x ys h.1)
  where
    not_less : (a b : ℕ) → is_lt (nat_cmp b a) ≡ false → a ≤ b
    not_less a b e = All-head (λ j. j ≤ b) a [] (le_from_greatest b (a ∷ []) (e, tt))

pub ruleset heaps = (pushed_places, popped_places, least_place)
