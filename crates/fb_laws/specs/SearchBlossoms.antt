-- Branches of a search's tree that become one blossom, which is a plus node (Edmonds 1965).
use Rattle.std.specs.Prelude.{ℕ, ◌≡◌, ◌*◌, Bool, true, false, not, List, [], ◌∷◌, ◌++◌, map, filter, length, All, if◌then◌else◌}
use Rattle.fb_graph.specs.Parity.{is_in}
use Rattle.fb_graph.specs.Problem.{Problem}
use Rattle.fb_graph.specs.Certificate.{AreDistinct}
use Rattle.fb_graph.specs.Laws.{Link}
use Rattle.fb_graph.specs.Dual.{Node, IsDual, is_outer, top_at}
use Rattle.fb_laws.specs.Forming.{Child, names_of, blossom_of}
use Rattle.fb_laws.specs.Measures.{IsLower}
use Rattle.fb_laws.specs.Works.{IsSetOf}
use Rattle.fb_laws.specs.Trees.{Entry, EntryOf, plus_names, minus_names, tree_names, roles_of}
use Rattle.fb_laws.specs.Searches.{IsSearch}
use Rattle.fb_laws.specs.SearchLayers.{left_to_do}

-- the blossom's name in the place of those that it joins
abbrev pub renamed_name : (ℕ → Bool) → ℕ → ℕ → ℕ
renamed_name joined name n = if joined n then name else n

abbrev pub renamed_entry : {L : Type 0} → (ℕ → Bool) → ℕ → EntryOf L → EntryOf L
renamed_entry joined name e = record {
  parent = renamed_name joined name e.parent;
  tree = e.tree;
  minus = e.minus;
  matched = e.matched;
  plus = renamed_name joined name e.plus;
}

-- the branches that it takes in
abbrev pub inner_branches : {L : Type 0} → (ℕ → Bool) → List (EntryOf L) → List (EntryOf L)
inner_branches joined tree = filter (λ e. joined e.minus) tree

abbrev pub outer_branches : {L : Type 0} → (ℕ → Bool) → List (EntryOf L) → List (EntryOf L)
outer_branches joined tree = filter (λ e. not (joined e.minus)) tree

-- the tree with the blossom in it
abbrev pub joined_tree : {L : Type 0} → (ℕ → Bool) → ℕ → List (EntryOf L) → List (EntryOf L)
joined_tree joined name tree = map (renamed_entry joined name) (outer_branches joined tree)

-- Each branch that is taken in hangs on the base or on another one that is, and only the base hangs on a branch that
-- isn't.
pub record AreBranches (joined : ℕ → Bool) (base root : ℕ) (tree : List Entry) : Type 0 where
  pub inner : All (λ e. joined e.minus ≡ true → (joined e.parent ≡ true) × (joined e.plus ≡ true)) tree
  pub outer : All (λ e. joined e.minus ≡ false → joined e.plus ≡ true → e.plus ≡ base) tree
  pub roots : joined root ≡ true → root ≡ base

-- The blossom's children are the base, which is a plus node, and the nodes of the branches that are taken in. So they
-- are for the cycle of two paths and a link between their plus nodes, and for a minus node with its parent and its
-- child. Nothing is said of the links that close the cycle.
pub record IsJoining (nodes : List Node) (tree : List Entry) (root name : ℕ) (base : Child) (others : List Child) : Type 0 where
  pub nodes_are : All (λ c. IsSetOf nodes c.name c.set) (base ∷ others)
  pub distinct : AreDistinct (names_of (base ∷ others))
  pub in_tree : All (λ c. is_in (tree_names root tree) c.name ≡ true) (base ∷ others)
  pub plus : is_in (plus_names root tree) base.name ≡ true
  pub branches : AreBranches (is_in (names_of (base ∷ others))) base.name root tree
  pub even : length others ≡ 2 * length (inner_branches (is_in (names_of (base ∷ others))) tree)
  pub fresh : is_outer (nodes ++ blossom_of name (base ∷ others) ∷ []) name ≡ true

abbrev pub child_at : List Node → ℕ → Child
child_at nodes n = record { name = n; set = top_at nodes n }

-- So a minus node joins its parent and its child.
abbrev pub ThreeJoining : Type 0
ThreeJoining = (p : Problem) (nodes : List Node) (newer older : List Entry) (e : Entry) (rest : List Link)
    (unmatched : List ℕ) (root r name : ℕ) → IsSearch p nodes (newer ++ e ∷ older) rest unmatched root r
    → is_outer
    (nodes ++ blossom_of name (child_at nodes e.parent ∷ child_at nodes e.minus ∷ child_at nodes e.plus ∷ []) ∷ []) name
    ≡ true
    → IsJoining nodes (newer ++ e ∷ older) root name (child_at nodes e.parent)
    (child_at nodes e.minus ∷ child_at nodes e.plus ∷ [])

-- The blossom in the tree, in the place of its children, keeps the search.
abbrev pub SearchJoined : Type 0
SearchJoined = (p : Problem) (nodes : List Node) (tree : List Entry) (rest : List Link) (unmatched remaining : List ℕ)
    (root r name : ℕ) (base : Child) (others : List Child) → IsJoining nodes tree root name base others
    → IsDual p (nodes ++ blossom_of name (base ∷ others) ∷ [])
    → is_in remaining name ≡ is_in unmatched base.name
    → ((n : ℕ) → is_in (names_of (base ∷ others)) n ≡ false → (n ≡ name → ⊥) → is_in remaining n ≡ is_in unmatched n)
    → IsSearch p nodes tree rest unmatched root r
    → IsSearch p (nodes ++ blossom_of name (base ∷ others) ∷ [])
    (joined_tree (is_in (names_of (base ∷ others))) name tree) rest remaining
    (renamed_name (is_in (names_of (base ∷ others))) name root) r

-- A minus node among the children makes fewer defects that aren't plus.
abbrev pub JoinedLowers : Type 0
JoinedLowers = (p : Problem) (nodes : List Node) (tree : List Entry) (rest : List Link) (unmatched : List ℕ)
    (root r name : ℕ) (base : Child) (others : List Child) (minus : ℕ) (free freed : Bool)
    → IsJoining nodes tree root name base others
    → IsDual p (nodes ++ blossom_of name (base ∷ others) ∷ []) → IsSearch p nodes tree rest unmatched root r
    → is_in (minus_names tree) minus ≡ true → is_in (names_of (base ∷ others)) minus ≡ true
    → IsLower
    (left_to_do p (nodes ++ blossom_of name (base ∷ others) ∷ [])
    (roles_of (renamed_name (is_in (names_of (base ∷ others))) name root)
    (joined_tree (is_in (names_of (base ∷ others))) name tree)) freed)
    (left_to_do p nodes (roles_of root tree) free)
