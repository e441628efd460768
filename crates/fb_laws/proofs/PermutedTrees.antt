-- Lists of the elements of other lists, one after another, in any order of these.
use Rattle.std.proofs.Common.{ℕ, zero, suc, ◌<◌, List, [], ◌∷◌, ◌++◌, length, get_or, set, subst, append_assoc, le_of_suc-le-suc, not-suc-le-zero}
use Rattle.std.proofs.lemmas.List.Sorted.{IsPermutation-append_comm, IsPermutation-append_left, IsPermutation-append_right, IsPermutation-keeps, IsPermutation-refl, IsPermutation-sym, IsPermutation-trans}
use Rattle.std.specs.List.{swap}
use Rattle.std.specs.List.Sorted.{IsPermutation}
use Rattle.fb_laws.specs.Forests.{TreeOf, from_each}

-- a list pulled before another one
pub pull : {X : Type 0} (xs ys zs : List X) → IsPermutation (xs ++ (ys ++ zs)) (ys ++ (xs ++ zs))
pull xs ys zs =
    subst (λ l. IsPermutation l (ys ++ (xs ++ zs))) (append_assoc xs ys zs)
    (subst (IsPermutation ((xs ++ ys) ++ zs)) (append_assoc ys xs zs)
    (IsPermutation-append_left zs (xs ++ ys) (ys ++ xs) (IsPermutation-append_comm xs ys)))

module _ {L X : Type 0} (f : TreeOf L → List X) where
  -- a tree in the place of another one
  each_set : (ts : List (TreeOf L)) (i : ℕ) (new d : TreeOf L) → i < length ts
      → IsPermutation (f (get_or ts i d) ++ from_each f (set ts i new)) (f new ++ from_each f ts)
  each_set [] i new d less = absurd (not-suc-le-zero less)
  each_set (t ∷ ts) zero new d less = pull (f t) (f new) (from_each f ts)
  each_set (t ∷ ts) (suc i) new d less =
      IsPermutation-trans (f (get_or ts i d) ++ (f t ++ from_each f (set ts i new))) (f t ++ (f new ++ from_each f ts))
      (f new ++ (f t ++ from_each f ts))
      (IsPermutation-trans (f (get_or ts i d) ++ (f t ++ from_each f (set ts i new)))
      (f t ++ (f (get_or ts i d) ++ from_each f (set ts i new))) (f t ++ (f new ++ from_each f ts))
      (pull (f (get_or ts i d)) (f t) (from_each f (set ts i new)))
      (IsPermutation-append_right (f t) (f (get_or ts i d) ++ from_each f (set ts i new)) (f new ++ from_each f ts)
      (each_set ts i new d (le_of_suc-le-suc less))))
      (pull (f t) (f new) (from_each f ts))

  -- two trees in each other's place
  each_exchanged : (ts : List (TreeOf L)) (i j : ℕ) (d : TreeOf L) → i < length ts → j < length ts
      → IsPermutation (from_each f ts) (from_each f (set (set ts i (get_or ts j d)) j (get_or ts i d)))
  each_exchanged [] i j d low high = absurd (not-suc-le-zero low)
  each_exchanged (t ∷ ts) zero zero d low high = IsPermutation-refl (f t ++ from_each f ts)
  each_exchanged (t ∷ ts) zero (suc j) d low high =
      IsPermutation-sym (f (get_or ts j d) ++ from_each f (set ts j t)) (f t ++ from_each f ts)
      (each_set ts j t d (le_of_suc-le-suc high))
  each_exchanged (t ∷ ts) (suc i) zero d low high =
      IsPermutation-sym (f (get_or ts i d) ++ from_each f (set ts i t)) (f t ++ from_each f ts)
      (each_set ts i t d (le_of_suc-le-suc low))
  each_exchanged (t ∷ ts) (suc i) (suc j) d low high =
      IsPermutation-append_right (f t) (from_each f ts) (from_each f (set (set ts i (get_or ts j d)) j (get_or ts i d)))
      (each_exchanged ts i j d (le_of_suc-le-suc low) (le_of_suc-le-suc high))

  each_swapped : (ts : List (TreeOf L)) (i j : ℕ) → i < length ts → j < length ts
      → IsPermutation (from_each f ts) (from_each f (swap ts i j))
  each_swapped [] i j low high = absurd (not-suc-le-zero low)
  each_swapped (t ∷ ts) i j low high = each_exchanged (t ∷ ts) i j t low high

  pub each_permuted : (ts us : List (TreeOf L)) → IsPermutation ts us → IsPermutation (from_each f ts) (from_each f us)
  each_permuted ts us =
      IsPermutation-keeps ts (λ l. IsPermutation (from_each f ts) (from_each f l)) (IsPermutation-refl (from_each f ts))
      (λ l i j low high moved.
      IsPermutation-trans (from_each f ts) (from_each f l) (from_each f (swap l i j)) moved (each_swapped l i j low high)) us
