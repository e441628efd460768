-- The minus nodes of several trees after one of them has changed, as where some of its nodes become a blossom.
use Rattle.std.proofs.Common.{ℕ, ◌≡◌, ◌⊎◌, inl, inr, true, List, ◌++◌, set, Option, Some, sym, ap, ◌∙◌}
use Rattle.std.proofs.lemmas.Bool.{both_ways, false_from_ne_true}
use Rattle.fb_graph.specs.Parity.{is_in}
use Rattle.fb_graph.specs.Steps.{AreExclusive}
use Rattle.fb_laws.specs.Trees.{minus_names}
use Rattle.fb_regions.specs.Paces.{shrinks}
use Rattle.fb_trees.specs.Branches.{Grown}
use Rattle.fb_trees.specs.Forests.{all_minus, all_plus, all_roles, role_among, tree_at, trees_in}
use Rattle.fb_trees.specs.Replacements.{joined_grown}
use Rattle.fb_search.proofs.ForestPlaces.{minus_either, minus_more, trees_after, trees_before, trees_split, trees_with}
use Rattle.fb_search.proofs.MinusBounds.{minus_before}
use Rattle.fb_search.proofs.RingRoles.{minus_here}
use Rattle.fb_search.proofs.RolesAmong.{minus_among, role_minus_among}

-- a node that is listed as minus is minus
pub minus_listed_among : (forest : List (Option Grown)) → AreExclusive (all_roles (trees_in forest)) → (n : ℕ)
    → is_in (all_minus (trees_in forest)) n ≡ true → shrinks (role_among forest n) ≡ true
minus_listed_among forest exclusive n there =
    ap shrinks
    (role_minus_among forest n
    (false_from_ne_true (is_in (all_plus (trees_in forest)) n)
    (λ plus. both_ways (is_in (all_minus (trees_in forest)) n) (exclusive n plus) there)) there)

module _ (forest : List (Option Grown)) (t : ℕ) (g : Grown) (at : tree_at forest t ≡ Some g)
    (exclusive : AreExclusive (all_roles (trees_in forest))) where
  -- with another tree in the place of one, a minus node is one of the other tree, or was minus
  pub minus_replaced : (h : Grown) (n : ℕ) → shrinks (role_among (set forest t (Some h)) n) ≡ true
      → (is_in (minus_names h.branches) n ≡ true) ⊎ (shrinks (role_among forest n) ≡ true)
  minus_replaced h n minus =
      by (minus_either (trees_before forest t) (trees_after forest t) h n
      (ap (λ ts. is_in (all_minus ts) n) (sym (trees_with forest t g h at)) ∙ minus_among (set forest t (Some h)) n minus))
    where
      by : (is_in (minus_names h.branches) n ≡ true) ⊎ (is_in (all_minus (trees_before forest t ++ trees_after forest t)) n ≡ true)
          → (is_in (minus_names h.branches) n ≡ true) ⊎ (shrinks (role_among forest n) ≡ true)
      by (inl own) = inl own
      by (inr beside) =
          inr
          (minus_listed_among forest exclusive n
          (ap (λ ts. is_in (all_minus ts) n) (trees_split forest t g at)
          ∙ minus_more (trees_before forest t) (trees_after forest t) g n beside))

  -- a minus node of the tree that was is minus
  pub minus_had : (n : ℕ) → is_in (minus_names g.branches) n ≡ true → shrinks (role_among forest n) ≡ true
  minus_had n own = minus_listed_among forest exclusive n (minus_here forest t g at n own)

  -- with a blossom in the tree, a minus node was minus
  pub minus_was_among : (gone : List ℕ) (name n : ℕ)
      → shrinks (role_among (set forest t (Some (joined_grown g gone name))) n) ≡ true → shrinks (role_among forest n) ≡ true
  minus_was_among gone name n minus = by (minus_replaced (joined_grown g gone name) n minus)
    where
      by : (is_in (minus_names (joined_grown g gone name).branches) n ≡ true) ⊎ (shrinks (role_among forest n) ≡ true)
          → shrinks (role_among forest n) ≡ true
      by (inl own) = minus_had n (minus_before (is_in gone) name g.branches n own)
      by (inr was) = was
