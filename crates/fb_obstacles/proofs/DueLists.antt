-- Lists of due times.
use Rattle.std.proofs.Common.{ℕ, ◌≡◌, ◌+◌, ◌<◌, ◌≤◌, ◌==◌, ◌&&◌, ◌||◌, Bool, true, false, List, [], ◌∷◌, get_or, length, arith, refl, sym, ap, ◌∙◌, subst, true≢false}
use Rattle.std.proofs.Math.Bool.{or-true}
use Rattle.std.proofs.Math.ListN.{get_or-map}
use Rattle.std.proofs.lemmas.List.{get_or_default, length-map}
use Rattle.std.proofs.lemmas.Bool.{and_from, and_parts, eq-eqb, eqb-true}
use Rattle.std.proofs.lemmas.List.Elements.{All-cons, All-head, All-tail}
use Rattle.std.proofs.lemmas.List.Sorted.{All-permutation, IsPermutation-map, first_le_from_greatest, length_permutation, list_any-IsPermutation}
use Rattle.std.specs.BinaryHeap.{IsHeap, IsUpperBound}
use Rattle.std.specs.List.Sorted.{IsPermutation}
use Rattle.std.specs.Ordering.{nat_cmp, is_lt, ordering_then}
use Rattle.std.specs.declared.cmp.Ordering.{Ordering}
use Rattle.std.specs.declared.cmp.Reverse.{Reverse}
use Rattle.fb_obstacles.specs.declared.queue.Due.{Due}
use Rattle.fb_obstacles.specs.InternalHeap.{IsDueHeap, due_times}
use Rattle.fb_obstacles.specs.InternalQueue.{IsFirst, KeepsOthers, due_order, is_due}

abbrev pub is_this : Due → ℕ → ℕ → Bool
is_this d v k = (d.growth == v) && (d.number == k)

pub popped_due : (x : Reverse Due) (xs ys : List (Reverse Due)) → IsPermutation xs (x ∷ ys) → (v k : ℕ)
    → is_due (due_times xs) v k ≡ (is_this x.0 v k || is_due (due_times ys) v k)
popped_due x xs ys h v k =
    list_any-IsPermutation (λ d. is_this d v k) (due_times xs) (x.0 ∷ due_times ys) (IsPermutation-map (λ r. r.0) xs (x ∷ ys) h)

not_before : (r : Ordering) (a b : ℕ) → is_lt (ordering_then (nat_cmp b a) r) ≡ false → a ≤ b
not_before r a b e =
    All-head (λ y. y.0 ≤ b) (a, tt {0}) [] (first_le_from_greatest (λ _ _. r) (b, tt {0}) ((a, tt {0}) ∷ []) (e, tt))

-- no due time in the heap is before the first
pub least_due : (x : Reverse Due) (xs : List (Reverse Due)) → IsUpperBound (λ a b. due_order b.0 a.0) x xs → (v k : ℕ)
    → is_due (due_times xs) v k ≡ true → x.0.growth ≤ v
least_due x [] h v k is = absurd (true≢false (sym is))
least_due x (y ∷ ys) h v k is = step (is_this y.0 v k) refl is (least_due x ys h.1 v k)
  where
    step : (b : Bool) → is_this y.0 v k ≡ b → (b || is_due (due_times ys) v k) ≡ true
        → (is_due (due_times ys) v k ≡ true → x.0.growth ≤ v) → x.0.growth ≤ v
    step true here any rest =
        subst (λ g. x.0.growth ≤ g) (eqb-true y.0.growth v (and_parts (y.0.growth == v) (y.0.number == k) here).0)
        (not_before (ordering_then (nat_cmp y.0.came x.0.came) (nat_cmp y.0.number x.0.number)) x.0.growth y.0.growth h.0)
    step false other any rest = rest any

-- what was put into the heap is due, and what was due before
module _ (d : Due) (xs ys : List Due) (added : IsPermutation (d ∷ xs) ys) where
  put_due : (v k : ℕ) → is_due ys v k ≡ (is_this d v k || is_due xs v k)
  put_due v k = sym (list_any-IsPermutation (λ e. is_this e v k) (d ∷ xs) ys added)

  pub put_is_due : is_due ys d.growth d.number ≡ true
  put_is_due =
      put_due d.growth d.number
      ∙ ap (λ b. b || is_due xs d.growth d.number)
      (and_from (d.growth == d.growth) (d.number == d.number) (eq-eqb d.growth d.growth refl) (eq-eqb d.number d.number refl))

  pub put_still_due : (v k : ℕ) → is_due xs v k ≡ true → is_due ys v k ≡ true
  put_still_due v k is = put_due v k ∙ (ap (λ b. is_this d v k || b) is ∙ or-true (is_this d v k))

-- the heap after a due time came in
pub heap_put : (x : Reverse Due) (xs ys : List (Reverse Due)) (m n a b : ℕ) → x.0.growth < 18446744073709551616
    → IsPermutation (x ∷ xs) ys → (IsHeap (λ x y. due_order y.0 x.0) xs → IsHeap (λ x y. due_order y.0 x.0) ys)
    → n ≡ m + 1 → m < a → a ≤ b → IsDueHeap xs m a → IsDueHeap ys n b
heap_put x xs ys m n a b less added keeps more room wider heap = record {
  ordered = keeps heap.ordered;
  small = All-permutation (λ y. y.0.growth < 18446744073709551616) (x ∷ xs) ys added
      (All-cons (λ y. y.0.growth < 18446744073709551616) x xs less heap.small);
  room = omega (arith, more, room, wider);
}

-- and after one left
pub heap_popped : (x : Reverse Due) (xs ys : List (Reverse Due)) (m n a b : ℕ) → IsPermutation xs (x ∷ ys)
    → (IsHeap (λ x y. due_order y.0 x.0) xs → IsHeap (λ x y. due_order y.0 x.0) ys) → n + 1 ≡ m → b ≡ a
    → IsDueHeap xs m a → IsDueHeap ys n b
heap_popped x xs ys m n a b left keeps fewer same heap = record {
  ordered = keeps heap.ordered;
  small = All-tail (λ y. y.0.growth < 18446744073709551616) x ys
      (All-permutation (λ y. y.0.growth < 18446744073709551616) xs (x ∷ ys) left heap.small);
  room = omega (arith, fewer, same, heap.room);
}

-- the first of the heap
pub first_of : (x : Reverse Due) (xs : List (Reverse Due)) → 0 < length xs → x ≡ get_or xs 0 x → IsFirst (due_times xs) x.0
first_of x xs some top = (
  omega (arith, some, length-map xs (λ (y : Reverse Due). y.0)),
  get_or-map (λ (y : Reverse Due). y.0) xs 0 x ∙ ap (λ (y : Reverse Due). y.0) (sym top),
)

-- the other due times stay where the first one leaves
pub left_others : (x : Reverse Due) (xs ys : List (Reverse Due)) → x ≡ get_or xs 0 x
    → IsPermutation xs (x ∷ ys) → (first : Due) → IsFirst (due_times xs) first
    → (first ≡ x.0) × KeepsOthers first.number (due_times xs) (due_times ys)
left_others x xs ys top left first is = (same, keeps)
  where
    some : 0 < length xs
    some = omega (arith, length_permutation xs (x ∷ ys) left)

    same : first ≡ x.0
    same =
        let here = first_of x xs some top in
        sym is.1 ∙ (get_or_default (due_times xs) 0 first x.0 is.0 ∙ here.1)

    keeps : KeepsOthers first.number (due_times xs) (due_times ys)
    keeps v k apart due = step (is_this x.0 v k) refl (sym (popped_due x xs ys left v k) ∙ due)
      where
        step : (b : Bool) → is_this x.0 v k ≡ b → (b || is_due (due_times ys) v k) ≡ true → is_due (due_times ys) v k ≡ true
        step true here any =
            absurd (apart (sym (eqb-true x.0.number k (and_parts (x.0.growth == v) (x.0.number == k) here).1)
            ∙ ap (λ (d : Due). d.number) (sym same)))
        step false here any = any
