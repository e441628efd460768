-- Sums of numbers over lists.
use Rattle.std.proofs.Common.{ℕ, ◌+◌, ◌≤◌, ◌≡◌, Bool, true, false, cond, List, [], ◌∷◌, length, All, sum_by, count_by, filter, flat_map, ◌*◌, mul-le-mul_right, get_or, refl, sym, ap, ◌∙◌, le_refl, arith}
use Rattle.std.proofs.lemmas.List.Elements.{All-head, All-tail}
use Rattle.std.proofs.lemmas.List.Sums.{sum_by-cons, sum_by-append}
use Rattle.std.proofs.lemmas.Bool.{false≢true}
use Rattle.fb_graph.specs.Parity.{differ, is_odd_count}
use Rattle.fb_graph.specs.Counts.{as_count}
use Rattle.fb_graph.proofs.ParitySums.{false-differ}
use Rattle.fb_graph.proofs.Booleans.{as_count-mono}

-- an odd number of elements that pass is at least one
pub le-sum_of_odd : {X : Type 0} (q : X → Bool) (y : ℕ) (xs : List X) → is_odd_count q xs ≡ true
    → y ≤ sum_by (λ x. cond (q x) y 0) xs
le-sum_of_odd q y [] odd = absurd (false≢true odd)
le-sum_of_odd {X = X} q y (x ∷ xs) odd = step (q x) refl (le-sum_of_odd q y xs)
  where
    part : X → ℕ
    part z = cond (q z) y 0

    step : (b : Bool) → q x ≡ b → (is_odd_count q xs ≡ true → y ≤ sum_by part xs)
        → y ≤ sum_by part (x ∷ xs)
    step true e ih = omega (arith, sum_by-cons part x xs, ap (λ b. cond b y 0) e)
    step false e ih =
        omega (
          arith,
          sum_by-cons part x xs,
          ih (sym (false-differ (is_odd_count q xs)) ∙ (ap (λ b. differ b (is_odd_count q xs)) (sym e) ∙ odd)),
        )

pub sum_zero : {X : Type 0} (xs : List X) → sum_by (λ x. 0) xs ≡ 0
sum_zero [] = refl
sum_zero {X = X} (x ∷ xs) = omega (arith, sum_by-cons (λ (y : X). 0) x xs, sum_zero xs)

pub sum_ones : {X : Type 0} (xs : List X) → sum_by (λ x. 1) xs ≡ length xs
sum_ones [] = refl
sum_ones {X = X} (x ∷ xs) = omega (arith, sum_by-cons (λ (y : X). 1) x xs, sum_ones xs)

pub sum_add : {X : Type 0} (f g : X → ℕ) (xs : List X)
    → sum_by (λ x. f x + g x) xs ≡ sum_by f xs + sum_by g xs
sum_add f g [] = refl
sum_add f g (x ∷ xs) =
    omega (arith, sum_by-cons (λ y. f y + g y) x xs, sum_by-cons f x xs, sum_by-cons g x xs, sum_add f g xs)

pub sum_same : {X : Type 0} (f g : X → ℕ) (xs : List X) → All (λ x. f x ≡ g x) xs → sum_by f xs ≡ sum_by g xs
sum_same f g [] all = refl
sum_same f g (x ∷ xs) all =
    omega (
      arith,
      sum_by-cons f x xs,
      sum_by-cons g x xs,
      All-head (λ y. f y ≡ g y) x xs all,
      sum_same f g xs (All-tail (λ y. f y ≡ g y) x xs all),
    )

pub sum_le : {X : Type 0} (f g : X → ℕ) (xs : List X) → All (λ x. f x ≤ g x) xs → sum_by f xs ≤ sum_by g xs
sum_le f g [] all = le_refl _
sum_le f g (x ∷ xs) all =
    omega (
      arith,
      sum_by-cons f x xs,
      sum_by-cons g x xs,
      All-head (λ y. f y ≤ g y) x xs all,
      sum_le f g xs (All-tail (λ y. f y ≤ g y) x xs all),
    )

-- sums in either order
pub sum_exchange : {X Y : Type 0} (f : X → Y → ℕ) (xs : List X) (ys : List Y)
    → sum_by (λ x. sum_by (f x) ys) xs ≡ sum_by (λ y. sum_by (λ x. f x y) xs) ys
sum_exchange f [] ys = sym (sum_zero ys)
sum_exchange f (x ∷ xs) ys =
    omega (
      arith,
      sum_by-cons (λ z. sum_by (f z) ys) x xs,
      sum_exchange f xs ys,
      sum_same (λ y. sum_by (λ z. f z y) (x ∷ xs)) (λ y. f x y + sum_by (λ z. f z y) xs) ys
          (λ k d less. sum_by-cons (λ z. f z (get_or ys k d)) x xs),
      sum_add (f x) (λ y. sum_by (λ z. f z y) xs) ys,
    )

pub sum-filter : {X : Type 0} (keep : X → Bool) (f : X → ℕ) (xs : List X)
    → sum_by f (filter keep xs) ≡ sum_by (λ x. cond (keep x) (f x) 0) xs
sum-filter keep f [] = refl
sum-filter {X = X} keep f (x ∷ xs) = step (keep x) refl (sum-filter keep f xs)
  where
    part : X → ℕ
    part y = cond (keep y) (f y) 0

    filtered : (b : Bool) → keep x ≡ b → filter keep (x ∷ xs) ≡ cond b (x ∷ filter keep xs) (filter keep xs)
    filtered b e = ap (λ a. cond a (x ∷ filter keep xs) (filter keep xs)) e

    step : (b : Bool) → keep x ≡ b → sum_by f (filter keep xs) ≡ sum_by part xs
        → sum_by f (filter keep (x ∷ xs)) ≡ sum_by part (x ∷ xs)
    step true e ih =
        ap (sum_by f) (filtered true e)
        ∙ omega (arith, sum_by-cons f x (filter keep xs), sum_by-cons part x xs, ap (λ b. cond b (f x) 0) e, ih)
    step false e ih =
        ap (sum_by f) (filtered false e)
        ∙ omega (arith, sum_by-cons part x xs, ap (λ b. cond b (f x) 0) e, ih)

pub sum-flat_map : {X Y : Type 0} (g : X → List Y) (f : Y → ℕ) (xs : List X)
    → sum_by f (flat_map g xs) ≡ sum_by (λ x. sum_by f (g x)) xs
sum-flat_map g f [] = refl
sum-flat_map g f (x ∷ xs) =
    omega (arith, sum_by-append f (g x) (flat_map g xs), sum_by-cons (λ y. sum_by f (g y)) x xs, sum-flat_map g f xs)

-- a number added as often as elements pass
pub sum_of_count : {X : Type 0} (q : X → Bool) (y : ℕ) (xs : List X)
    → sum_by (λ x. cond (q x) y 0) xs ≡ count_by q xs * y
sum_of_count q y [] = omega arith
sum_of_count {X = X} q y (x ∷ xs) = step (q x) refl (sum_of_count q y xs)
  where
    part : X → ℕ
    part z = cond (q z) y 0

    one : X → ℕ
    one z = cond (q z) 1 0

    step : (b : Bool) → q x ≡ b → sum_by part xs ≡ sum_by one xs * y
        → sum_by part (x ∷ xs) ≡ sum_by one (x ∷ xs) * y
    step true e ih =
        omega (
          arith,
          sum_by-cons part x xs,
          ap (λ b. cond b y 0) e,
          ap (λ n. n * y) (sum_by-cons one x xs ∙ ap (λ b. cond b 1 0 + sum_by one xs) e),
          ih,
        )
    step false e ih =
        omega (
          arith,
          sum_by-cons part x xs,
          ap (λ b. cond b y 0) e,
          ap (λ n. n * y) (sum_by-cons one x xs ∙ ap (λ b. cond b 1 0 + sum_by one xs) e),
          ih,
        )

pub sum_of_once : {X : Type 0} (q : X → Bool) (y : ℕ) (xs : List X) → count_by q xs ≤ 1
    → sum_by (λ x. cond (q x) y 0) xs ≤ y
sum_of_once q y xs once =
    omega (arith, sum_of_count q y xs, mul-le-mul_right y once)

-- a test that lets less through counts less
pub count_by-le : (test before : ℕ → Bool) (xs : List ℕ) → ((x : ℕ) → test x ≡ true → before x ≡ true) → count_by test xs ≤ count_by before xs
count_by-le test before xs narrower =
    sum_le (λ x. as_count (test x)) (λ x. as_count (before x)) xs
    (λ i d less. as_count-mono (test (get_or xs i d)) (before (get_or xs i d)) (narrower (get_or xs i d)))
