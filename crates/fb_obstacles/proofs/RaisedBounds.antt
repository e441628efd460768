-- Bounds that are kept with an amount added to each.
use Rattle.std.proofs.Common.{ℕ, suc, ◌≡◌, ◌+◌, ◌-◌, ◌≤◌, ◌<◌, ◌⊎◌, inl, inr, List, [], ◌∷◌, All, length, map, get_or, set, take, min, refl, sym, ap, subst, ◌∙◌, arith}
use Rattle.std.specs.List.{swap_remove}
use Rattle.std.proofs.Math.ListN.{get_or-map as get_or-map_lowered}
use Rattle.std.proofs.Math.Nat.{min-eq_left, min-eq_right}
use Rattle.std.proofs.Math.Seq.{take-set-lt}
use Rattle.std.proofs.lemmas.Bool.{cases_eq, cases_lt}
use Rattle.std.proofs.lemmas.List.{get_or_default, get_or-set_other, get_or-set_same, map-set, set_past}
use Rattle.fb_obstacles.specs.Watched.{Watched, AreBounded}
use Rattle.fb_regions.proofs.Stored.{length-swapped, swapped_here, swapped_other}

pub lowered_at : (xs : List ℕ) (a i : ℕ) → get_or (map (λ x. x - a) xs) i 0 ≡ get_or xs i 0 - a
lowered_at xs a i = ap (λ d. get_or (map (λ x. x - a) xs) i d) (omega arith) ∙ get_or-map_lowered (λ x. x - a) xs i 0

-- Lowered twice is lowered by both amounts, or by the greatest number that one of the numbers may be, if they are more.
pub lowered_twice : (xs : List ℕ) (a b c m : ℕ) → All (λ x. x < m) xs → c ≡ min (a + b) (m - 1)
    → map (λ x. x - c) xs ≡ map (λ x. x - b) (map (λ x. x - a) xs)
lowered_twice [] a b c m small amount = refl
lowered_twice (x ∷ xs) a b c m small amount =
    ap (λ y. y ∷ map (λ z. z - c) xs) (head (cases_lt (a + b) m))
    ∙ ap (λ ys. (x - a - b) ∷ ys) (lowered_twice xs a b c m (λ i d less. small (suc i) d (omega (arith, less))) amount)
  where
    first : x < m
    first = small 0 x (omega arith)

    head : (a + b < m) ⊎ (m ≤ a + b) → x - c ≡ x - a - b
    head (inl few) = omega (arith, amount, min-eq_left {n = a + b} {m = m - 1} (omega (arith, few)))
    head (inr many) = omega (arith, first, many, amount, min-eq_right {n = m - 1} {m = a + b} (omega (arith, many)))

-- the bound at a place is set by setting what is kept of it
pub lowered_set : (xs : List ℕ) (n a i raised : ℕ) → i < n
    → map (λ y. y - a) (take n (set xs i raised)) ≡ set (map (λ y. y - a) (take n xs)) i (raised - a)
lowered_set xs n a i raised less =
    ap (map (λ y. y - a)) (take-set-lt n xs i raised less) ∙ map-set (λ y. y - a) (take n xs) i raised

-- the bound of one edge is set to at most its limit
pub bounded_set : (limit : ℕ → ℕ) (w : Watched) (i x : ℕ) → AreBounded limit w → x ≤ limit (get_or w.edges i 0)
    → AreBounded limit (record w { bounds = set w.bounds i x })
bounded_set limit w i x bounded most j less = step (cases_eq j i) (cases_lt i (length w.bounds))
  where
    step : (j ≡ i) ⊎ (j ≡ i → ⊥) → (i < length w.bounds) ⊎ (length w.bounds ≤ i)
        → get_or (set w.bounds i x) j 0 ≤ limit (get_or w.edges j 0)
    step (inr other) some =
        subst (λ y. y ≤ limit (get_or w.edges j 0)) (sym (get_or-set_other w.bounds i j x 0 other)) (bounded j less)
    step (inl same) (inr past) =
        subst (λ ys. get_or ys j 0 ≤ limit (get_or w.edges j 0)) (sym (set_past w.bounds i x past)) (bounded j less)
    step (inl same) (inl within) =
        subst (λ m. get_or (set w.bounds i x) m 0 ≤ limit (get_or w.edges m 0)) (sym same)
        (subst (λ y. y ≤ limit (get_or w.edges i 0)) (sym (get_or-set_same w.bounds i x 0 within)) most)

-- what is taken in place of a missing last element doesn't matter where there is one
pub taken_default : (xs : List ℕ) (i d e : ℕ) → i < length xs → swap_remove xs i d ≡ swap_remove xs i e
taken_default xs i d e within =
    ap (λ x. take (length xs - 1) (set xs i x)) (get_or_default xs (length xs - 1) d e (omega (arith, within)))

-- the last edge and its bound take the place of others
pub bounded_taken : (limit : ℕ → ℕ) (w : Watched) (place : ℕ) → length w.bounds ≡ length w.edges → place < length w.edges
    → AreBounded limit w
    → AreBounded limit (record w { edges = swap_remove w.edges place 0; bounds = swap_remove w.bounds place 0 })
bounded_taken limit w place even within bounded i less = step (cases_eq i place)
  where
    fewer : length (swap_remove w.edges place 0) + 1 ≡ length w.edges
    fewer = length-swapped w.edges place 0 within

    step : (i ≡ place) ⊎ (i ≡ place → ⊥)
        → get_or (swap_remove w.bounds place 0) i 0 ≤ limit (get_or (swap_remove w.edges place 0) i 0)
    step (inl here) =
        let moved : get_or (swap_remove w.edges place 0) i 0 ≡ get_or w.edges (length w.edges - 1) 0 =
        ap (λ k. get_or (swap_remove w.edges place 0) k 0) here
        ∙ swapped_here w.edges place 0 0 (omega (arith, here, less, fewer)) in
        omega (
          arith,
          ap (λ k. get_or (swap_remove w.bounds place 0) k 0) here,
          swapped_here w.bounds place 0 0 (omega (arith, here, less, fewer, even)),
          ap (λ k. get_or w.bounds (k - 1) 0) even,
          bounded (length w.edges - 1) (omega (arith, within)),
          ap limit moved,
        )
    step (inr differs) =
        omega (
          arith,
          swapped_other w.bounds place i 0 0 differs (omega (arith, less, fewer, even)),
          bounded i (omega (arith, less, fewer)),
          ap limit (swapped_other w.edges place i 0 0 differs (omega (arith, less, fewer))),
        )
