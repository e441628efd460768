-- Lists that differ in their order alone still do when they are flattened.
use Rattle.std.proofs.Common.{ℕ, zero, suc, ◌<◌, List, [], ◌∷◌, ◌++◌, flat_map, length, get_or, arith}
use Rattle.std.proofs.Math.ListN.{set}
use Rattle.std.specs.List.{swap}
use Rattle.std.specs.List.Sorted.{IsPermutation}
use Rattle.std.proofs.lemmas.List.Sorted.{IsPermutation-append_right, IsPermutation-keeps, IsPermutation-refl, IsPermutation-trans}
use Rattle.fb_laws.proofs.OpenedCycles.{swapped}

module _ {X Y : Type 0} (f : X → List Y) where
  -- an element takes the place of another
  flat_replaced : (xs : List X) (i : ℕ) (v d : X) → i < length xs
      → IsPermutation (f v ++ flat_map f xs) (f (get_or xs i d) ++ flat_map f (set xs i v))
  flat_replaced [] i v d less = absurd (omega (arith, less))
  flat_replaced (x ∷ xs) zero v d less = swapped (f v) (f x) (flat_map f xs)
  flat_replaced (x ∷ xs) (suc i) v d less =
      IsPermutation-trans _ _ _ (swapped (f v) (f x) (flat_map f xs))
      (IsPermutation-trans _ _ _ (IsPermutation-append_right (f x) _ _ (flat_replaced xs i v d (omega (arith, less))))
      (swapped (f x) (f (get_or xs i d)) (flat_map f (set xs i v))))

  flat_exchanged : (xs : List X) (i j : ℕ) (d : X) → i < length xs → j < length xs
      → IsPermutation (flat_map f xs) (flat_map f (set (set xs i (get_or xs j d)) j (get_or xs i d)))
  flat_exchanged [] i j d first second = IsPermutation-refl []
  flat_exchanged (x ∷ xs) zero zero d first second = IsPermutation-refl (flat_map f (x ∷ xs))
  flat_exchanged (x ∷ xs) zero (suc j) d first second = flat_replaced xs j x d (omega (arith, second))
  flat_exchanged (x ∷ xs) (suc i) zero d first second = flat_replaced xs i x d (omega (arith, first))
  flat_exchanged (x ∷ xs) (suc i) (suc j) d first second =
      IsPermutation-append_right (f x) _ _ (flat_exchanged xs i j d (omega (arith, first)) (omega (arith, second)))

  flat_swapped : (xs : List X) (i j : ℕ) → i < length xs → j < length xs → IsPermutation (flat_map f xs) (flat_map f (swap xs i j))
  flat_swapped [] i j first second = IsPermutation-refl []
  flat_swapped (x ∷ xs) i j first second = flat_exchanged (x ∷ xs) i j x first second

  pub flat_permuted : (xs ys : List X) → IsPermutation xs ys → IsPermutation (flat_map f xs) (flat_map f ys)
  flat_permuted xs ys moved =
      IsPermutation-keeps xs (λ l. IsPermutation (flat_map f xs) (flat_map f l)) (IsPermutation-refl (flat_map f xs))
      (λ l i j first second so_far. IsPermutation-trans _ _ _ so_far (flat_swapped l i j first second)) ys moved
