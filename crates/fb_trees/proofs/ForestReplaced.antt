-- Nodes of one tree of a forest replaced.
use Rattle.std.proofs.Common.{ℕ, ◌≡◌, ◌≤◌, ◌<◌, ◌⊎◌, inl, inr, true, List, [], ◌∷◌, get_or, length, map, set, Option, Some, arith, refl, sym, ap, ◌∙◌, subst}
use Rattle.std.proofs.lemmas.Option.{same_Some}
use Rattle.fb_graph.specs.Parity.{is_in}
use Rattle.fb_links.specs.declared.cycle.CycleStep.{CycleStep}
use Rattle.fb_trees.specs.declared.one_tree.OneTree.{OneTree}
use Rattle.fb_trees.specs.Branches.{Grown, entries_of}
use Rattle.fb_trees.specs.Forests.{IsOutside, IsReplacedIn, tree_at}
use Rattle.fb_trees.specs.InternalForests.{IsJoinedAs, IsOpenedAs, IsOpenedIn, MayOpenIn, MayRebuild, MayReplaceAt, seen}
use Rattle.fb_trees.specs.Replacements.{IsOpened, joined_grown}
use Rattle.fb_trees.specs.Rooted.{is_node}

module _ (f : List (Option Grown)) (tree : ℕ) (v : Grown) (at : tree_at f tree ≡ Some v) where
  pub viewed_is : (g : Grown) → tree_at f tree ≡ Some g → v ≡ g
  viewed_is g there = same_Some v g (sym at ∙ there)

  pub join_rebuilds : (gone : List ℕ) (name : ℕ) (one : OneTree) → IsJoinedAs v gone name one → IsOutside f name
      → MayRebuild f tree one.root (entries_of one.branches.items)
  join_rebuilds gone name one joined fresh = record {
    grown = v;
    at = at;
    rooted = joined.rooted;
    fresh = λ n within. by n (joined.names n within);
  }
    where
      by : (n : ℕ) → (is_node v n ≡ true) ⊎ (n ≡ name) → (is_node v n ≡ true) ⊎ IsOutside f n
      by n (inl old) = inl old
      by n (inr new) = inr (subst (IsOutside f) (sym new) fresh)

  pub open_rebuilds : (name : ℕ) (path : List CycleStep) (one : OneTree) → IsOpenedAs v name path one
      → ((n : ℕ) → is_in (map (λ (s : CycleStep). s.node) path) n ≡ true → IsOutside f n)
      → MayRebuild f tree one.root (entries_of one.branches.items)
  open_rebuilds name path one opened fresh = record {
    grown = v;
    at = at;
    rooted = opened.rooted;
    fresh = λ n within. by n (opened.names n within);
  }
    where
      by : (n : ℕ) → (is_node v n ≡ true) ⊎ (is_in (map (λ (s : CycleStep). s.node) path) n ≡ true) → (is_node v n ≡ true) ⊎ IsOutside f n
      by n (inl old) = inl old
      by n (inr new) = inr (fresh n new)

  pub joined_result : (gone : List ℕ) (name : ℕ) (one : OneTree) → IsJoinedAs v gone name one → (new : List (Option Grown))
      → new ≡ set f tree (Some (seen one)) → (g : Grown) → tree_at f tree ≡ Some g
      → new ≡ set f tree (Some (joined_grown g gone name))
  joined_result gone name one joined new is_new g there =
      is_new ∙ ap (λ k. set f tree (Some k)) (joined.tree ∙ ap (λ k. joined_grown k gone name) (viewed_is g there))

  pub opened_result : (name : ℕ) (path : List CycleStep) (one : OneTree) → IsOpenedAs v name path one → (new : List (Option Grown))
      → new ≡ set f tree (Some (seen one)) → (g : Grown) → tree_at f tree ≡ Some g → IsOpenedIn f name path tree g new
  opened_result name path one opened new is_new g there = record {
    after = seen one;
    opened = subst (λ k. IsOpened k name path (seen one)) (viewed_is g there) opened.tree;
    new_is = is_new;
  }

-- what the call for one node may
pub may_open : (f : List (Option Grown)) (t : ℕ) (gone : List ℕ) (path : List CycleStep) → 1 ≤ length gone → length gone < 2
    → MayReplaceAt f t gone path → MayOpenIn f t (get_or gone 0 0) path
may_open f t [] path some few may = absurd (omega arith)
may_open f t (b ∷ []) path some few may = record { grown = may.grown; at = may.at; may = may.may; fresh = may.fresh }
may_open f t (b ∷ c ∷ cs) path some few may = absurd (omega arith)

-- by how many nodes give way
pub replaced_one : (f new : List (Option Grown)) (gone : List ℕ) (path : List CycleStep) → 1 ≤ length gone → length gone < 2 → (t : ℕ)
    → ((g : Grown) → tree_at f t ≡ Some g → IsOpenedIn f (get_or gone 0 0) path t g new)
    → (g : Grown) → tree_at f t ≡ Some g → IsReplacedIn f gone path t g new
replaced_one f new [] path some few t opened g there = absurd (omega arith)
replaced_one f new (b ∷ []) path some few t opened g there =
    let is = opened g there in record { after = is.after; replaced = is.opened; new_is = is.new_is }
replaced_one f new (b ∷ c ∷ cs) path some few t opened g there = absurd (omega arith)

pub replaced_many : (f new : List (Option Grown)) (gone : List ℕ) (path : List CycleStep) (d : CycleStep) → 2 ≤ length gone → (t : ℕ)
    → MayReplaceAt f t gone path
    → ((g : Grown) → tree_at f t ≡ Some g → new ≡ set f t (Some (joined_grown g gone (get_or path 0 d).node)))
    → (g : Grown) → tree_at f t ≡ Some g → IsReplacedIn f gone path t g new
replaced_many f new [] path d many t may joined g there = absurd (omega arith)
replaced_many f new (b ∷ []) path d many t may joined g there = absurd (omega arith)
replaced_many f new (b ∷ c ∷ cs) [] d many t may joined g there = absurd may.may
replaced_many f new (b ∷ c ∷ cs) (s ∷ []) d many t may joined g there =
    record { after = joined_grown g (b ∷ c ∷ cs) s.node; replaced = refl; new_is = joined g there }
replaced_many f new (b ∷ c ∷ cs) (s ∷ u ∷ us) d many t may joined g there = absurd may.may
