-- Sums of parities: `differ` is their addition, `is_odd_count` the sum over a list.
use Rattle.std.proofs.Common.{◌≡◌, ◌&&◌, Bool, true, false, filter, flat_map, List, [], ◌∷◌, ◌++◌, All, refl, sym, ap, ◌∙◌}
use Rattle.std.proofs.lemmas.List.Elements.{All-head, All-tail}
use Rattle.fb_graph.specs.Parity.{differ, is_odd_count}

pub differ_comm : (a b : Bool) → differ a b ≡ differ b a
differ_comm true true = refl
differ_comm true false = refl
differ_comm false true = refl
differ_comm false false = refl

pub differ_assoc : (a b c : Bool) → differ (differ a b) c ≡ differ a (differ b c)
differ_assoc true true true = refl
differ_assoc true true false = refl
differ_assoc true false true = refl
differ_assoc true false false = refl
differ_assoc false true true = refl
differ_assoc false true false = refl
differ_assoc false false true = refl
differ_assoc false false false = refl

pub differ-false : (a : Bool) → differ a false ≡ a
differ-false true = refl
differ-false false = refl

pub false-differ : (a : Bool) → differ false a ≡ a
false-differ true = refl
false-differ false = refl

pub differ_self : (a : Bool) → differ a a ≡ false
differ_self true = refl
differ_self false = refl

pub same_from_differ : (a b : Bool) → differ a b ≡ false → a ≡ b
same_from_differ true true h = refl
same_from_differ true false h = cc
same_from_differ false true h = cc
same_from_differ false false h = refl

pub differ_swap : (a b c d : Bool) → differ (differ a b) (differ c d) ≡ differ (differ a c) (differ b d)
differ_swap a b c d =
    differ_assoc a b (differ c d)
    ∙ ap (differ a) (sym (differ_assoc b c d) ∙ (ap (λ x. differ x d) (differ_comm b c) ∙ differ_assoc c b d))
    ∙ sym (differ_assoc a c (differ b d))

-- what differs from both sides drops out
pub differ_through : (a b c : Bool) → differ (differ a b) (differ b c) ≡ differ a c
differ_through true true true = refl
differ_through true true false = refl
differ_through true false true = refl
differ_through true false false = refl
differ_through false true true = refl
differ_through false true false = refl
differ_through false false true = refl
differ_through false false false = refl

pub odd_none : {X : Type 0} (xs : List X) → is_odd_count (λ x. false) xs ≡ false
odd_none [] = refl
odd_none (x ∷ xs) = ap (differ false) (odd_none xs)

pub odd-append : {X : Type 0} (p : X → Bool) (xs ys : List X)
    → is_odd_count p (xs ++ ys) ≡ differ (is_odd_count p xs) (is_odd_count p ys)
odd-append p [] ys = sym (false-differ (is_odd_count p ys))
odd-append p (x ∷ xs) ys =
    ap (differ (p x)) (odd-append p xs ys) ∙ sym (differ_assoc (p x) (is_odd_count p xs) (is_odd_count p ys))

-- the parity of a sum of tests is the sum of their parities
pub odd-differ : {X : Type 0} (p q : X → Bool) (xs : List X)
    → is_odd_count (λ x. differ (p x) (q x)) xs ≡ differ (is_odd_count p xs) (is_odd_count q xs)
odd-differ p q [] = refl
odd-differ p q (x ∷ xs) =
    ap (differ (differ (p x) (q x))) (odd-differ p q xs)
    ∙ differ_swap (p x) (q x) (is_odd_count p xs) (is_odd_count q xs)

-- tests that agree have equal parities
pub odd_same : {X : Type 0} (p q : X → Bool) → ((x : X) → p x ≡ q x) → (xs : List X)
    → is_odd_count p xs ≡ is_odd_count q xs
odd_same p q same [] = refl
odd_same p q same (x ∷ xs) =
    ap (λ a. differ a (is_odd_count p xs)) (same x) ∙ ap (differ (q x)) (odd_same p q same xs)

-- tests that agree on the list's elements have equal parities
pub odd_agree : {X : Type 0} (p q : X → Bool) (xs : List X) → All (λ x. p x ≡ q x) xs
    → is_odd_count p xs ≡ is_odd_count q xs
odd_agree p q [] all = refl
odd_agree p q (x ∷ xs) all =
    ap (λ a. differ a (is_odd_count p xs)) (All-head (λ y. p y ≡ q y) x xs all)
    ∙ ap (differ (q x)) (odd_agree p q xs (All-tail (λ y. p y ≡ q y) x xs all))

-- sums of parities in either order
pub odd_exchange : {X Y : Type 0} (r : X → Y → Bool) (xs : List X) (ys : List Y)
    → is_odd_count (λ x. is_odd_count (r x) ys) xs ≡ is_odd_count (λ y. is_odd_count (λ x. r x y) xs) ys
odd_exchange r [] ys = sym (odd_none ys)
odd_exchange r (x ∷ xs) ys =
    ap (differ (is_odd_count (r x) ys)) (odd_exchange r xs ys)
    ∙ sym (odd-differ (r x) (λ y. is_odd_count (λ z. r z y) xs) ys)

pub odd-and : {X : Type 0} (a : Bool) (test : X → Bool) (xs : List X)
    → is_odd_count (λ x. a && test x) xs ≡ (a && is_odd_count test xs)
odd-and true test xs = refl
odd-and false test xs = odd_none xs

pub odd-filter : {X : Type 0} (keep test : X → Bool) (xs : List X)
    → is_odd_count test (filter keep xs) ≡ is_odd_count (λ x. keep x && test x) xs
odd-filter keep test [] = refl
odd-filter keep test (x ∷ xs) = step (keep x) refl (odd-filter keep test xs)
  where
    step : (b : Bool) → keep x ≡ b
        → is_odd_count test (filter keep xs) ≡ is_odd_count (λ y. keep y && test y) xs
        → is_odd_count test (filter keep (x ∷ xs)) ≡ is_odd_count (λ y. keep y && test y) (x ∷ xs)
    step true e ih = rw e (ap (differ (test x)) ih)
    step false e ih = rw e (ih ∙ sym (false-differ (is_odd_count (λ y. keep y && test y) xs)))

pub odd-flat_map : {X Y : Type 0} (f : X → List Y) (test : Y → Bool) (xs : List X)
    → is_odd_count test (flat_map f xs) ≡ is_odd_count (λ x. is_odd_count test (f x)) xs
odd-flat_map f test [] = refl
odd-flat_map f test (x ∷ xs) =
    odd-append test (f x) (flat_map f xs) ∙ ap (differ (is_odd_count test (f x))) (odd-flat_map f test xs)
