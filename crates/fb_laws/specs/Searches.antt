-- The state of a search: a part of a problem with a tree that grows from one unmatched node, its root. Each step keeps
-- it, until the root is matched (Edmonds 1965).
use Rattle.std.specs.Prelude.{ℕ, ◌≡◌, ◌+◌, ◌%◌, ◌⊎◌, true, false, List, [], ◌∷◌, ◌++◌, All, Some}
use Rattle.std.specs.List.Sorted.{IsPermutation}
use Rattle.fb_graph.specs.Parity.{is_in}
use Rattle.fb_graph.specs.Problem.{Problem}
use Rattle.fb_graph.specs.Certificate.{AreDistinct}
use Rattle.fb_graph.specs.Laws.{Link}
use Rattle.fb_graph.specs.Dual.{Node, IsDual, leaves, cover_of, top_at}
use Rattle.fb_graph.specs.Steps.{AllowShrinking, gains, losses, stepped_nodes}
use Rattle.fb_graph.specs.Covers.{AreRoles, HaveParity}
use Rattle.fb_laws.specs.Paths.{IsPath, tip_of}
use Rattle.fb_graph.specs.Links.{pair, AreEven}
use Rattle.fb_laws.specs.Works.{AreMatchedLinks, IsMatching, IsWork, IsBranchOf, names_without}
use Rattle.fb_laws.specs.Trees.{Entry, Connects, IsTree, grown_links, paired_links, plus_names, tree_names, roles_of, path_to, branches_beside, branches_of}

-- the named node is outer: it is over some defect, as each outer node is
abbrev pub IsOuterNode : List Node → ℕ → Type 0
IsOuterNode nodes name = (d : ℕ) × (is_in (leaves nodes) d ≡ true) × (cover_of nodes d ≡ Some name)

-- The matched links are those of the tree and the rest. All defects under the tree have one parity. Nothing is said of
-- the potentials of other unmatched nodes: they may be the roots of other trees.
pub record IsSearch (p : Problem) (nodes : List Node) (tree : List Entry) (rest : List Link) (unmatched : List ℕ) (root r : ℕ) : Type 0 where
  pub matching : IsMatching p nodes (paired_links tree ++ rest) unmatched
  pub root_is : IsOuterNode nodes root
  pub open_root : is_in unmatched root ≡ true
  pub names : AreDistinct (tree_names root tree)
  pub joined : IsTree nodes root tree
  pub grown : AreMatchedLinks p nodes (grown_links tree)
  pub parity : HaveParity (is_in (tree_names root tree)) nodes r

-- A search begins with an unmatched node as the whole tree.
abbrev pub SearchBegins : Type 0
SearchBegins = (p : Problem) (nodes : List Node) (links : List Link) (unmatched : List ℕ) (root : ℕ)
    → IsWork p nodes links unmatched → IsOuterNode nodes root → is_in unmatched root ≡ true
    → IsSearch p nodes [] links unmatched root 0

-- The order of the links beside the tree doesn't matter.
abbrev pub SearchPermuted : Type 0
SearchPermuted = (p : Problem) (nodes : List Node) (tree : List Entry) (rest more : List Link) (unmatched : List ℕ)
    (root r : ℕ) → IsPermutation rest more → IsSearch p nodes tree rest unmatched root r
    → IsSearch p nodes tree more unmatched root r

-- The tree's names are those of outer nodes, and none is both plus and minus.
abbrev pub SearchRoles : Type 0
SearchRoles = (p : Problem) (nodes : List Node) (tree : List Entry) (rest : List Link) (unmatched : List ℕ) (root r : ℕ)
    → IsSearch p nodes tree rest unmatched root r → AreRoles (roles_of root tree) nodes

-- No other link has an end under the tree.
abbrev pub RestOutside : Type 0
RestOutside = (p : Problem) (nodes : List Node) (tree : List Entry) (rest : List Link) (unmatched : List ℕ) (root r : ℕ)
    → IsSearch p nodes tree rest unmatched root r
    → All
    (λ l. ((name : ℕ) → cover_of nodes l.from ≡ Some name → is_in (tree_names root tree) name ≡ false)
    × ((name : ℕ) → cover_of nodes l.to ≡ Some name → is_in (tree_names root tree) name ≡ false)) rest

-- Each link of the tree, each matched one, and each other one gains as much as it loses by a step of the tree.
abbrev pub SearchLevel : Type 0
SearchLevel = (p : Problem) (nodes : List Node) (tree : List Entry) (rest : List Link) (unmatched : List ℕ) (root r : ℕ)
    → IsSearch p nodes tree rest unmatched root r
    → All
    (λ l.
    gains (roles_of root tree) nodes (pair l.from l.to) ≡ losses (roles_of root tree) nodes (pair l.from l.to))
    (grown_links tree ++ (paired_links tree ++ rest))

-- From the root an alternating path leads to each plus node. The tree is this path and the branches beside it.
abbrev pub SearchPath : Type 0
SearchPath = (p : Problem) (nodes : List Node) (tree : List Entry) (rest : List Link) (unmatched : List ℕ)
    (root r name : ℕ) → IsSearch p nodes tree rest unmatched root r → is_in (plus_names root tree) name ≡ true
    → IsPath (top_at nodes root) (branches_of nodes (path_to tree name))
    × (tip_of (top_at nodes root) (branches_of nodes (path_to tree name)) ≡ top_at nodes name)
    × All (IsBranchOf nodes) (branches_of nodes (path_to tree name))
    × IsPermutation (path_to tree name ++ branches_beside tree name) tree

-- A step of the tree keeps the search.
abbrev pub SearchStepped : Type 0
SearchStepped = (p : Problem) (nodes : List Node) (tree : List Entry) (rest : List Link) (unmatched : List ℕ)
    (root r k : ℕ) → AllowShrinking (roles_of root tree) nodes k → IsDual p (stepped_nodes (roles_of root tree) k nodes)
    → IsSearch p nodes tree rest unmatched root r
    → IsSearch p (stepped_nodes (roles_of root tree) k nodes) tree rest unmatched root ((r + k) % 2)

-- A plus node that meets a node matched to another attaches both to the tree, the one as minus and the other as plus.
abbrev pub SearchAttached : Type 0
SearchAttached = (p : Problem) (nodes : List Node) (tree : List Entry) (e : Entry) (rest : List Link)
    (unmatched : List ℕ) (root r : ℕ) → AreEven p → IsSearch p nodes tree (e.matched ∷ rest) unmatched root r
    → is_in (plus_names root tree) e.parent ≡ true → Connects nodes e.tree e.parent e.minus
    → Connects nodes e.matched e.minus e.plus → AreMatchedLinks p nodes (e.tree ∷ [])
    → IsSearch p nodes (e ∷ tree) rest unmatched root r

-- one end of the link is under the node, and its other end at the vertex
abbrev pub LeavesNode : List Node → Link → ℕ → ℕ → Type 0
LeavesNode nodes l name v =
    ((cover_of nodes l.from ≡ Some name) × (l.to ≡ v)) ⊎ ((cover_of nodes l.to ≡ Some name) × (l.from ≡ v))

-- A plus node that meets the boundary ends the search: along its path links of the tree take the place of matched
-- ones, and the root is matched.
abbrev pub SearchEnded : Type 0
SearchEnded = (p : Problem) (nodes : List Node) (tree : List Entry) (rest : List Link) (unmatched : List ℕ)
    (root r name : ℕ) (out : Link) (v : ℕ) → IsSearch p nodes tree rest unmatched root r
    → HaveParity (is_in (names_without root unmatched)) nodes 0
    → is_in (plus_names root tree) name ≡ true → AreMatchedLinks p nodes (out ∷ []) → LeavesNode nodes out name v
    → p.is_real v ≡ false
    → IsWork p nodes (grown_links (path_to tree name) ++ out ∷ (paired_links (branches_beside tree name) ++ rest))
    (names_without root unmatched)

-- So does one that meets another unmatched node: both are matched.
abbrev pub SearchMet : Type 0
SearchMet = (p : Problem) (nodes : List Node) (tree : List Entry) (rest : List Link) (unmatched : List ℕ)
    (root r name other : ℕ) (out : Link) → IsSearch p nodes tree rest unmatched root r
    → HaveParity (is_in (names_without root unmatched)) nodes 0
    → is_in (plus_names root tree) name ≡ true → is_in unmatched other ≡ true → (root ≡ other → ⊥)
    → AreMatchedLinks p nodes (out ∷ []) → Connects nodes out name other
    → IsWork p nodes (grown_links (path_to tree name) ++ out ∷ (paired_links (branches_beside tree name) ++ rest))
    (names_without root (names_without other unmatched))

-- And one that meets a node matched to the boundary, whose link there is taken away.
abbrev pub SearchReleased : Type 0
SearchReleased = (p : Problem) (nodes : List Node) (tree : List Entry) (old : Link) (rest : List Link)
    (unmatched : List ℕ) (root r name other : ℕ) (out : Link) (b : ℕ)
    → IsSearch p nodes tree (old ∷ rest) unmatched root r
    → HaveParity (is_in (names_without root unmatched)) nodes 0 → is_in (plus_names root tree) name ≡ true
    → AreMatchedLinks p nodes (out ∷ []) → Connects nodes out name other → LeavesNode nodes old other b
    → p.is_real b ≡ false
    → IsWork p nodes (grown_links (path_to tree name) ++ out ∷ (paired_links (branches_beside tree name) ++ rest))
    (names_without root unmatched)
