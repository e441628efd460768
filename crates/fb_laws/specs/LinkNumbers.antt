-- What becomes of the links of a tree when a search ends, and when nodes of the tree are replaced, by their numbers:
-- which are kept, which are new, and which may be forgotten. No number is lost or used twice.
use Rattle.std.specs.Prelude.{ℕ, ◌≡◌, ◌+◌, Bool, true, List, ◌∷◌, ◌++◌, length}
use Rattle.std.specs.List.Sorted.{IsPermutation}
use Rattle.fb_graph.specs.Parity.{is_in}
use Rattle.fb_graph.specs.Certificate.{AreDistinct}
use Rattle.fb_graph.specs.Problem.{Problem}
use Rattle.fb_graph.specs.Laws.{Link}
use Rattle.fb_laws.specs.OpenedCycles.{PassOf, grown_on, matched_on, opened_tree}
use Rattle.fb_laws.specs.PartStates.{SearchState, IsSearchState}
use Rattle.fb_laws.specs.SearchBlossoms.{inner_branches, joined_tree}
use Rattle.fb_laws.specs.StateBlossoms.{MayClose}
use Rattle.fb_laws.specs.TreeCycles.{ArePaths, cycle_links, cycle_nodes, last_plus}
use Rattle.fb_laws.specs.Trees.{Entry, EntryOf, branches_beside, grown_links, minus_names, paired_links, path_to}

-- all links of a tree
abbrev pub tree_links : {L : Type 0} → List (EntryOf L) → List L
tree_links tree = grown_links tree ++ paired_links tree

-- those that are matched when a search ends at the named plus node
abbrev pub links_matched : {L : Type 0} → List (EntryOf L) → ℕ → List L
links_matched tree name = grown_links (path_to tree name) ++ paired_links (branches_beside tree name)

-- and those that aren't
abbrev pub links_dropped : {L : Type 0} → List (EntryOf L) → ℕ → List L
links_dropped tree name = paired_links (path_to tree name) ++ grown_links (branches_beside tree name)

-- When a search ends, each link of the tree is matched or dropped.
abbrev pub LinksEnded : Type 0
LinksEnded = (tree : List (EntryOf ℕ)) (name : ℕ)
    → IsPermutation (tree_links tree) (links_matched tree name ++ links_dropped tree name)

-- the nodes of the cycle are joined, each once, and so are the branches of both paths alone
pub record IsCycleJoined (joined : ℕ → Bool) (tree up down : List (EntryOf ℕ)) : Type 0 where
  pub nodes : (n : ℕ) → is_in (cycle_nodes up down) n ≡ true → joined n ≡ true
  pub distinct : AreDistinct (cycle_nodes up down)
  pub branches : length (inner_branches joined tree) ≡ length up + length down

-- When a cycle is joined, its links are those of the tree that leave it, with the one that closes the cycle.
abbrev pub LinksJoined : Type 0
LinksJoined = (joined : ℕ → Bool) (name a b closing : ℕ) (tree shared up down : List (EntryOf ℕ))
    → ArePaths tree a b shared up down → IsCycleJoined joined tree up down
    → IsPermutation (closing ∷ tree_links tree)
    (tree_links (joined_tree joined name tree) ++ cycle_links up closing down)

-- For the links themselves that is so if the cycle may be closed.
abbrev pub CycleCounted : Type 0
CycleCounted = (p : Problem) (s : SearchState) (name a b : ℕ) (closing : Link) (shared up down : List Entry)
    → MayClose p s name a b closing → ArePaths s.tree a b shared up down → IsSearchState p s
    → AreDistinct (last_plus s.root shared ∷ cycle_nodes up down)
    × (length (inner_branches (is_in (last_plus s.root shared ∷ cycle_nodes up down)) s.tree) ≡ length up + length down)

-- How many branches are joined depends on the minus nodes alone, and not on the form of the links.
abbrev pub BranchesCounted : Type 0
BranchesCounted = (joined : ℕ → Bool) (tree : List Entry) (numbered : List (EntryOf ℕ))
    → minus_names numbered ≡ minus_names tree
    → length (inner_branches joined numbered) ≡ length (inner_branches joined tree)

-- When a minus blossom is opened along a way, the way's links join the tree.
abbrev pub LinksOpened : Type 0
LinksOpened = (newer older : List (EntryOf ℕ)) (e : EntryOf ℕ) (from : ℕ) (way : List (PassOf ℕ))
    → IsPermutation (tree_links (newer ++ e ∷ older) ++ (grown_on way ++ matched_on way))
    (tree_links (opened_tree newer e older from way))
