-- One of several trees, and the others: which nodes and links these have, and where the trees stand once one is dissolved.
use Rattle.std.proofs.Common.{ℕ, ◌≡◌, ◌≢◌, ◌⊎◌, true, List, ◌∷◌, set, Option, Some, None, sym, ap, ◌∙◌, subst}
use Rattle.std.specs.List.Sorted.{IsPermutation}
use Rattle.std.proofs.lemmas.List.{get_or-set_other}
use Rattle.std.proofs.lemmas.List.Sorted.{IsPermutation-cons, IsPermutation-middle, IsPermutation-trans}
use Rattle.fb_graph.specs.Parity.{is_in}
use Rattle.fb_laws.specs.Trees.{minus_names}
use Rattle.fb_trees.specs.Branches.{Grown}
use Rattle.fb_trees.specs.Forests.{all_minus, all_plus, tree_at, trees_in}
use Rattle.fb_search.specs.InternalGrowing.{all_along, grown_ids}
use Rattle.fb_search.proofs.ForestPlaces.{along_first, ids_first, minus_either, minus_more, minus_of, plus_more, trees_after, trees_before, trees_beside, trees_split, trees_without}

module _ (f : List (Option Grown)) (t : ℕ) (g : Grown) (at : tree_at f t ≡ Some g) where
  -- the links and the nodes of the one tree come first
  pub ids_beside : IsPermutation (grown_ids (trees_in f)) (grown_ids (g ∷ trees_beside f t))
  ids_beside =
      subst (λ l. IsPermutation (grown_ids l) (grown_ids (g ∷ trees_beside f t))) (sym (trees_split f t g at))
      (ids_first (trees_before f t) (trees_after f t) g)

  pub along_beside : IsPermutation (all_along (trees_in f)) (all_along (g ∷ trees_beside f t))
  along_beside =
      subst (λ l. IsPermutation (all_along l) (all_along (g ∷ trees_beside f t))) (sym (trees_split f t g at))
      (along_first (trees_before f t) (trees_after f t) g)

  -- what is plus or minus in another tree is so in one of all,
  pub plus_beside : (n : ℕ) → is_in (all_plus (trees_beside f t)) n ≡ true → is_in (all_plus (trees_in f)) n ≡ true
  plus_beside n h =
      ap (λ l. is_in (all_plus l) n) (trees_split f t g at) ∙ plus_more (trees_before f t) (trees_after f t) g n h

  pub minus_beside : (n : ℕ) → is_in (all_minus (trees_beside f t)) n ≡ true → is_in (all_minus (trees_in f)) n ≡ true
  minus_beside n h =
      ap (λ l. is_in (all_minus l) n) (trees_split f t g at) ∙ minus_more (trees_before f t) (trees_after f t) g n h

  -- and so is a minus node of this one,
  pub minus_within : (n : ℕ) → is_in (minus_names g.branches) n ≡ true → is_in (all_minus (trees_in f)) n ≡ true
  minus_within n h =
      ap (λ l. is_in (all_minus l) n) (trees_split f t g at) ∙ minus_of (trees_before f t) (trees_after f t) g n h

  -- and none else
  pub minus_parted : (n : ℕ) → is_in (all_minus (trees_in f)) n ≡ true
      → (is_in (minus_names g.branches) n ≡ true) ⊎ (is_in (all_minus (trees_beside f t)) n ≡ true)
  minus_parted n h =
      minus_either (trees_before f t) (trees_after f t) g n (ap (λ l. is_in (all_minus l) n) (sym (trees_split f t g at)) ∙ h)

  pub first_beside : IsPermutation (trees_in f) (g ∷ trees_beside f t)
  first_beside =
      subst (λ l. IsPermutation l (g ∷ trees_beside f t)) (sym (trees_split f t g at))
      (IsPermutation-middle (trees_before f t) g (trees_after f t))

  module _ (u : ℕ) (h : Grown) (apart : t ≢ u) (other : tree_at f u ≡ Some h) where
    -- a second tree is where it was when the first is dissolved
    pub second_at : tree_at (set f t None) u ≡ Some h
    second_at = get_or-set_other f t u None None (λ same. apart (sym same)) ∙ other

    -- so both come first
    pub two_beside : IsPermutation (trees_in f) (g ∷ h ∷ trees_beside (set f t None) u)
    two_beside =
        IsPermutation-trans _ _ _ first_beside
        (IsPermutation-cons g _ _
        (subst (λ l. IsPermutation l (h ∷ trees_beside (set f t None) u))
        (sym (trees_split (set f t None) u h second_at) ∙ trees_without f t g at)
        (IsPermutation-middle (trees_before (set f t None) u) h (trees_after (set f t None) u))))
