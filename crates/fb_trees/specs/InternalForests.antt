-- The tables of a forest, and what it keeps.
use Rattle.std.specs.Prelude.{ℕ, ◌≡◌, ◌<◌, ◌==◌, ◌⊎◌, Bool, true, false, List, All, map, set, length, Option, Some, None, if◌then◌else◌}
use Rattle.fb_graph.specs.Parity.{is_in}
use Rattle.fb_laws.specs.Trees.{EntryOf, tree_names}
use Rattle.fb_regions.specs.InternalPlaces.{place_in}
use Rattle.fb_trees.specs.declared.branch.Branch.{Branch}
use Rattle.fb_trees.specs.declared.one_tree.OneTree.{OneTree}
use Rattle.fb_trees.specs.Branches.{Grown, entries_of}
use Rattle.fb_trees.specs.Forests.{IsOutside, IsTreeOf, tree_at, trees_in}
use Rattle.fb_trees.specs.InternalPlaces.{IsWithin, has_branch, place_of, place_or}
use Rattle.fb_links.specs.declared.cycle.CycleStep.{CycleStep}
use Rattle.fb_trees.specs.Replacements.{IsOpened, MayJoin, MayOpen, MayReplace, joined_grown}
use Rattle.fb_trees.specs.Rooted.{IsRooted, is_node}

-- the tree, if it isn't dissolved
abbrev pub grown_of : OneTree → Option Grown
grown_of t = if t.live then Some (record { root = t.root; branches = entries_of t.branches.items }) else None

abbrev pub holds : Option Grown → ℕ → Bool
holds None name = false
holds (Some g) name = is_node g name

-- The one table has the number of each node's tree. The other one has the place of the node's branch there; the root has
-- none.
pub record IsKeptForest (forest : List (Option Grown)) (owners places : List (Option ℕ)) : Type 0 where
  pub rooted : (t : ℕ) (g : Grown) → tree_at forest t ≡ Some g → IsRooted g.root g.branches
  pub owned : (t name : ℕ) (g : Grown) → IsTreeOf forest name t g → place_in owners name ≡ Some t
  pub owner : (t name : ℕ) → place_in owners name ≡ Some t → (g : Grown) × IsTreeOf forest name t g
  pub placed : (t name : ℕ) (g : Grown) → IsTreeOf forest name t g → place_in places name ≡ place_of g.branches name
  pub free : (name : ℕ) → place_in owners name ≡ None → place_in places name ≡ None

-- what a forest keeps, and how many of its trees aren't dissolved
pub record IsWholeForest (forest : List (Option Grown)) (owners places : List (Option ℕ)) (left : ℕ) : Type 0 where
  pub kept : IsKeptForest forest owners places
  pub counted : left ≡ length (trees_in forest)

-- the tables have room for these nodes
pub record HasRoom (owners places : List (Option ℕ)) (root : ℕ) (branches : List Branch) : Type 0 where
  pub root_in : root < length owners
  pub owners_in : All (IsWithin (length owners)) branches
  pub places_in : All (IsWithin (length places)) branches

-- The tree of this number can become another one, whose nodes are its own or in no tree.
pub record MayRebuild (forest : List (Option Grown)) (t root : ℕ) (branches : List (EntryOf ℕ)) : Type 0 where
  pub grown : Grown
  pub at : tree_at forest t ≡ Some grown
  pub rooted : IsRooted root branches
  pub fresh : (name : ℕ) → is_in (tree_names root branches) name ≡ true → (is_node grown name ≡ true) ⊎ IsOutside forest name

-- a tree by its fields
abbrev pub seen : OneTree → Grown
seen t = record { root = t.root; branches = entries_of t.branches.items }

-- the tree with the blossom in the place of the nodes
pub record IsJoinedAs (g : Grown) (gone : List ℕ) (name : ℕ) (one : OneTree) : Type 0 where
  pub live : one.live ≡ true
  pub rooted : IsRooted one.root (entries_of one.branches.items)
  pub tree : seen one ≡ joined_grown g gone name
  pub names : (n : ℕ) → is_in (tree_names one.root (entries_of one.branches.items)) n ≡ true → (is_node g n ≡ true) ⊎ (n ≡ name)

-- the tree with the nodes of the path in the place of the minus node
pub record IsOpenedAs (g : Grown) (name : ℕ) (path : List CycleStep) (one : OneTree) : Type 0 where
  pub live : one.live ≡ true
  pub rooted : IsRooted one.root (entries_of one.branches.items)
  pub tree : IsOpened g name path (seen one)
  pub names : (n : ℕ) → is_in (tree_names one.root (entries_of one.branches.items)) n ≡ true
      → (is_node g n ≡ true) ⊎ (is_in (map (λ s. s.node) path) n ≡ true)

-- what the tables have once the entries of a tree are taken out and those of another one are entered
pub record IsRebuilt (owners places : List (Option ℕ)) (old_root : ℕ) (old : List (EntryOf ℕ)) (t root : ℕ)
    (new : List (EntryOf ℕ)) (after_owners after_places : List (Option ℕ)) : Type 0 where
  pub left_owners : List (Option ℕ)
  pub left_places : List (Option ℕ)
  pub owners_left : (name : ℕ) → place_in left_owners name
      ≡ (if has_branch old name then None else (if old_root == name then None else place_in owners name))
  pub places_left : (name : ℕ) → place_in left_places name ≡ (if has_branch old name then None else place_in places name)
  pub owners_are : (name : ℕ) → place_in after_owners name
      ≡ (if root == name then Some t else (if has_branch new name then Some t else place_in left_owners name))
  pub places_are : (name : ℕ) → place_in after_places name ≡ place_or (place_of new name) (place_in left_places name)

-- nodes of the tree of that number can be joined, and the blossom is in no tree
pub record MayJoinIn (forest : List (Option Grown)) (t : ℕ) (gone : List ℕ) (name : ℕ) : Type 0 where
  pub grown : Grown
  pub at : tree_at forest t ≡ Some grown
  pub may : MayJoin grown gone name
  pub fresh : IsOutside forest name

-- a minus node of the tree of that number can give way to the path, whose nodes are in no tree
pub record MayOpenIn (forest : List (Option Grown)) (t name : ℕ) (path : List CycleStep) : Type 0 where
  pub grown : Grown
  pub at : tree_at forest t ≡ Some grown
  pub may : MayOpen grown name path
  pub fresh : (n : ℕ) → is_in (map (λ s. s.node) path) n ≡ true → IsOutside forest n

-- nodes of the tree of that number can give way to the path, whose nodes are in no tree
pub record MayReplaceAt (forest : List (Option Grown)) (t : ℕ) (gone : List ℕ) (path : List CycleStep) : Type 0 where
  pub grown : Grown
  pub at : tree_at forest t ≡ Some grown
  pub may : MayReplace grown gone path
  pub fresh : (n : ℕ) → is_in (map (λ s. s.node) path) n ≡ true → IsOutside forest n

-- that tree with the nodes of the path in it, and no other change
pub record IsOpenedIn (old : List (Option Grown)) (name : ℕ) (path : List CycleStep) (t : ℕ) (g : Grown) (new : List (Option Grown)) : Type 0 where
  pub after : Grown
  pub opened : IsOpened g name path after
  pub new_is : new ≡ set old t (Some after)
