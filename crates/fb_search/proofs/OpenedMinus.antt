-- The minus nodes of several trees after a minus blossom of one of them is opened: each was minus, or is on the way.
use Rattle.std.proofs.Common.{ℕ, ◌≡◌, ◌⊎◌, ◌*◌, inl, inr, true, List, ◌++◌, ◌∷◌, map, set, Option, Some, refl, sym, ap, ◌∙◌, subst}
use Rattle.fb_graph.specs.Certificate.{AreDistinct}
use Rattle.fb_graph.specs.Dual.{Node}
use Rattle.fb_graph.specs.Moves.{split_nodes}
use Rattle.fb_graph.specs.Parity.{is_in}
use Rattle.fb_graph.specs.Steps.{AreExclusive}
use Rattle.fb_graph.proofs.Among.{IsAmong, All_among, among_All}
use Rattle.fb_laws.specs.OpenedCycles.{opened_tree}
use Rattle.fb_laws.specs.Trees.{EntryOf, minus_names}
use Rattle.fb_links.specs.declared.cycle.CycleStep.{CycleStep}
use Rattle.fb_regions.specs.Moves.{node_named}
use Rattle.fb_regions.specs.Paces.{shrinks}
use Rattle.fb_obstacles.specs.Obstacles.{AreMinusBounded}
use Rattle.fb_obstacles.specs.Watched.{Watched, has_bound}
use Rattle.fb_obstacles.proofs.NodeLooks.{named_only}
use Rattle.fb_trees.specs.Branches.{Grown}
use Rattle.fb_trees.specs.Forests.{all_roles, role_among, tree_at, trees_in}
use Rattle.fb_trees.specs.Replacements.{way_of}
use Rattle.fb_search.specs.InternalGrowing.{roles_among}
use Rattle.fb_search.specs.InternalOpenings.{EntersWay}
use Rattle.fb_search.proofs.Agreed.{nodes_of}
use Rattle.fb_search.proofs.MinusBounds.{minus_split, minus_were}
use Rattle.fb_search.proofs.OpenedNames.{along_way}
use Rattle.fb_search.proofs.RingMinus.{minus_had, minus_replaced}
use Rattle.fb_search.proofs.RolesInTree.{only_minus}

module _ (forest : List (Option Grown)) (t : ℕ) (g tree : Grown) (at : tree_at forest t ≡ Some g)
    (exclusive : AreExclusive (all_roles (trees_in forest))) (newer : List (EntryOf ℕ)) (e : EntryOf ℕ) (older : List (EntryOf ℕ))
    (from : ℕ) (steps : List CycleStep) (was : g.branches ≡ newer ++ e ∷ older)
    (now : tree.branches ≡ opened_tree newer e older from (way_of steps)) (named : nodes_of steps ≡ along_way from (way_of steps)) where
  abbrev After : List (Option Grown)
  After = set forest t (Some tree)

  opened_were : (n : ℕ) → shrinks (role_among (set forest t (Some tree)) n) ≡ true
      → (shrinks (role_among forest n) ≡ true) ⊎ (is_in (nodes_of steps) n ≡ true)
  opened_were n minus = by (minus_replaced forest t g at exclusive tree n minus)
    where
      of_tree : (is_in (minus_names (newer ++ e ∷ older)) n ≡ true) ⊎ (is_in (along_way from (way_of steps)) n ≡ true)
          → (shrinks (role_among forest n) ≡ true) ⊎ (is_in (nodes_of steps) n ≡ true)
      of_tree (inl own) = inl (minus_had forest t g at exclusive n (ap (λ es. is_in (minus_names es) n) was ∙ own))
      of_tree (inr on) = inr (ap (λ l. is_in l n) named ∙ on)

      by : (is_in (minus_names tree.branches) n ≡ true) ⊎ (shrinks (role_among forest n) ≡ true)
          → (shrinks (role_among forest n) ≡ true) ⊎ (is_in (nodes_of steps) n ≡ true)
      by (inl own) =
          of_tree (minus_were newer e older from (way_of steps) n (ap (λ es. is_in (minus_names es) n) (sym now) ∙ own))
      by (inr old) = inl old

  -- so the minus nodes are bounded once those on the way are entered
  pub minus_reopened : (name : ℕ) (nodes : List Node) (old between final : Watched)
      → AreDistinct (map (λ n. n.name) (split_nodes name nodes)) → between.nodes ≡ old.nodes
      → EntersWay (split_nodes name nodes) (role_among (set forest t (Some tree))) steps between final
      → AreMinusBounded (roles_among forest) nodes old
      → AreMinusBounded (roles_among (set forest t (Some tree))) (split_nodes name nodes) final
  minus_reopened name nodes old between final distinct same enters bounded =
      minus_split (roles_among forest) (roles_among After) name nodes old final
      (λ n limit is. enters.kept n limit (subst (λ bs. has_bound bs n limit ≡ true) (sym same) is))
      (among_All
      (λ n. shrinks (role_among After n.name) ≡ true
      → (shrinks (role_among forest n.name) ≡ true) ⊎ (has_bound final.nodes n.name (2 * n.top.value) ≡ true)) Others
      (λ n a minus. by n a minus (opened_were n.name minus)))
      bounded
    where
      Others : List Node
      Others = split_nodes name nodes

      by : (n : Node) → IsAmong n Others → shrinks (role_among After n.name) ≡ true
          → (shrinks (role_among forest n.name) ≡ true) ⊎ (is_in (nodes_of steps) n.name ≡ true)
          → (shrinks (role_among forest n.name) ≡ true) ⊎ (has_bound final.nodes n.name (2 * n.top.value) ≡ true)
      by n a minus (inl old) = inl old
      by n a minus (inr on) =
          inr
          (subst (λ (m : Node). has_bound final.nodes n.name (2 * m.top.value) ≡ true)
          (sym (All_among (λ m. m.name ≡ n.name → m ≡ node_named Others n.name) Others (named_only Others n.name distinct) n a refl))
          (enters.entered n.name on (only_minus (role_among After n.name) minus)))
