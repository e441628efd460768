-- A tree of a forest that is matched at one of its plus nodes.
use Rattle.std.proofs.Common.{ℕ, ◌≡◌, List, Option, Some, sym, ap, subst, ◌∙◌, option_map}
use Rattle.std.proofs.lemmas.Option.{same_Some}
use Rattle.fb_links.proofs.MovedLinks.{Table}
use Rattle.fb_half.specs.Matchings.{MatchingValue}
use Rattle.fb_trees.specs.Branches.{Grown}
use Rattle.fb_trees.specs.Forests.{AreRootedApart, IsPlusNode, IsTreeOf, tree_at}
use Rattle.fb_trees.proofs.Names.{plus_in_tree}
use Rattle.fb_search.specs.InternalGrowingEnds.{MayMatchTree}

module _ (f : List (Option Grown)) (t s name : ℕ) (g h : Grown) (m : MatchingValue) (table : Table)
    (may : MayMatchTree t g name m table f) where
  pub may_plus : IsPlusNode f name
  may_plus = record { tree = t; grown = g; at = may.at; plus = may.plus }

  -- the tree that the node is in is that one
  pub may_same : AreRootedApart f → IsTreeOf f name s h → MayMatchTree s h name m table f
  may_same kept there = move s number there.at
    where
      number : t ≡ s
      number = kept.apart t s name g h (record { at = may.at; has = plus_in_tree g.root g.branches name may.plus }) there

      move : (s : ℕ) → t ≡ s → tree_at f s ≡ Some h → MayMatchTree s h name m table f
      move s same at =
          subst (λ k. MayMatchTree k h name m table f) same
          (subst (λ k. MayMatchTree t k name m table f) (same_Some g h (sym may.at ∙ (ap (tree_at f) same ∙ at))) may)

-- the root that is read
pub root_read : (f : List (Option Grown)) (t root : ℕ) (g : Grown) (read : Option ℕ) → read ≡ option_map (λ x. x.root) (tree_at f t)
    → read ≡ Some root → tree_at f t ≡ Some g → g.root ≡ root
root_read f t root g read is some at =
    same_Some g.root root (ap (option_map (λ (x : Grown). x.root)) (sym at) ∙ (sym is ∙ some))
