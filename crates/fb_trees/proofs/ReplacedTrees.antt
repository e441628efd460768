-- A tree with nodes replaced, by its fields.
use Rattle.std.proofs.Common.{ℕ, ◌≡◌, ◌+◌, Bool, true, List, get_or, take, drop, Some, sym, ap, ◌∙◌, subst}
use Rattle.fb_graph.specs.Parity.{is_in}
use Rattle.fb_links.specs.declared.cycle.CycleStep.{CycleStep}
use Rattle.fb_laws.specs.Trees.{tree_names}
use Rattle.fb_laws.specs.SearchBlossoms.{joined_tree, renamed_name}
use Rattle.fb_trees.specs.declared.branch.Branch.{Branch}
use Rattle.fb_trees.specs.declared.one_tree.OneTree.{OneTree}
use Rattle.fb_trees.specs.Branches.{Grown, entries_of, entry_of}
use Rattle.fb_trees.specs.InternalForests.{IsJoinedAs, IsOpenedAs}
use Rattle.fb_trees.specs.InternalPlaces.{place_of}
use Rattle.fb_trees.specs.Replacements.{MayJoin, MayOpen}
use Rattle.fb_trees.specs.Rooted.{IsRooted}
use Rattle.fb_trees.proofs.Lookups.{has_place}
use Rattle.fb_trees.proofs.Replaced.{opened_at, opened_is, opened_stays_rooted, rooted_after, some_branch, split_entries}
use Rattle.fb_trees.proofs.Replacing.{joined_names, opened_names}

pub joined_as : (t : Grown) (gone : List ℕ) (name : ℕ) (inside : ℕ → Bool) → inside ≡ is_in gone → IsRooted t.root t.branches
    → MayJoin t gone name → (one : OneTree) → one.live ≡ true → one.root ≡ renamed_name inside name t.root
    → entries_of one.branches.items ≡ joined_tree inside name t.branches → IsJoinedAs t gone name one
joined_as t gone name inside same rooted may one live root_is branches_is = record {
  live = live;
  rooted = rooted_after t gone name inside same rooted may one.root root_is (entries_of one.branches.items) branches_is;
  tree =
      ap (λ r. record { root = r; branches = entries_of one.branches.items }) root
      ∙ ap (λ l. record { root = renamed_name (is_in gone) name t.root; branches = l }) branches;
  names = λ n within.
      joined_names t gone name may n
      (sym
      (ap (λ r. is_in (tree_names r (entries_of one.branches.items)) n) root
      ∙ ap (λ l. is_in (tree_names (renamed_name (is_in gone) name t.root) l) n) branches)
      ∙ within);
}
  where
    root : one.root ≡ renamed_name (is_in gone) name t.root
    root = root_is ∙ ap (λ f. renamed_name f name t.root) same

    branches : entries_of one.branches.items ≡ joined_tree (is_in gone) name t.branches
    branches = branches_is ∙ ap (λ f. joined_tree f name t.branches) same

pub opened_as : (t : Grown) → IsRooted t.root t.branches → (name : ℕ) (path : List CycleStep) → MayOpen t name path
    → (xs : List Branch) → entries_of xs ≡ t.branches → (place : ℕ) → place_of (entries_of xs) name ≡ Some place
    → (one : OneTree) → one.live ≡ true → one.root ≡ t.root → entries_of one.branches.items ≡ opened_at xs place path
    → IsOpenedAs t name path one
opened_as t rooted name path may xs are place at one live root_is is = record {
  live = live;
  rooted =
      subst (λ r. IsRooted r (entries_of one.branches.items)) (sym root_is)
      (opened_stays_rooted t rooted name path may xs are place at (entries_of one.branches.items) is);
  tree =
      opened_is t rooted name path may xs are place at (entries_of one.branches.items) is
      (record { root = one.root; branches = entries_of one.branches.items })
      (ap (λ r. record { root = r; branches = entries_of one.branches.items }) root_is);
  names = λ n within.
      opened_names t name path rooted may (entries_of (drop (place + 1) xs)) (entries_of (take place xs))
      (entry_of (get_or xs place some_branch)) (sym are ∙ split_entries xs place some_branch (has_place xs name place at)) n
      (sym
      (ap (λ r. is_in (tree_names r (entries_of one.branches.items)) n) root_is
      ∙ ap (λ l. is_in (tree_names t.root l) n) is)
      ∙ within);
}
