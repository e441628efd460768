-- Several alternating trees that grow at once, each from an unmatched node (Edmonds 1965).
use Rattle.std.specs.Prelude.{ℕ, ◌≡◌, ◌+◌, ◌%◌, true, false, List, [], ◌∷◌, ◌++◌, map, All}
use Rattle.std.specs.List.Sorted.{IsPermutation}
use Rattle.fb_graph.specs.Parity.{is_in}
use Rattle.fb_graph.specs.Problem.{Problem}
use Rattle.fb_graph.specs.Certificate.{AreDistinct}
use Rattle.fb_graph.specs.Laws.{Link}
use Rattle.fb_graph.specs.Dual.{Node, IsDual}
use Rattle.fb_graph.specs.Steps.{AllowShrinking, Roles, gains, losses, stepped_nodes}
use Rattle.fb_graph.specs.Covers.{AreRoles, HaveParity}
use Rattle.fb_graph.specs.Links.{pair, AreEven}
use Rattle.fb_laws.specs.Paths.{Branch, IsPath, matched_links, tip_of, tree_links}
use Rattle.fb_laws.specs.Works.{AreMatchedLinks, IsBranchOf, IsMatching, IsSetOf, IsWork, names_without}
use Rattle.fb_laws.specs.Trees.{Entry, EntryOf, Connects, IsTree, branches_beside, grown_links, minus_names, paired_links, path_to, plus_names, tree_names}
use Rattle.fb_laws.specs.Searches.{IsOuterNode, IsSearch, LeavesNode}

-- a tree: its root, and its branches, the newest one first
pub record TreeOf (L : Type 0) : Type 0 where
  pub root : ℕ
  pub branches : List (EntryOf L)

abbrev pub AnyTree : Type 0
AnyTree = TreeOf Link

-- a list from each tree, one after another
abbrev pub from_each : {L X : Type 0} → (TreeOf L → List X) → List (TreeOf L) → List X
from_each f [] = []
from_each f (t ∷ ts) = f t ++ from_each f ts

abbrev pub names_of_tree : {L : Type 0} → TreeOf L → List ℕ
names_of_tree t = tree_names t.root t.branches

abbrev pub forest_names : {L : Type 0} → List (TreeOf L) → List ℕ
forest_names trees = from_each (λ t. tree_names t.root t.branches) trees

abbrev pub forest_plus : {L : Type 0} → List (TreeOf L) → List ℕ
forest_plus trees = from_each (λ t. plus_names t.root t.branches) trees

abbrev pub forest_minus : {L : Type 0} → List (TreeOf L) → List ℕ
forest_minus trees = from_each (λ t. minus_names t.branches) trees

abbrev pub forest_paired : {L : Type 0} → List (TreeOf L) → List L
forest_paired trees = from_each (λ t. paired_links t.branches) trees

abbrev pub forest_grown : {L : Type 0} → List (TreeOf L) → List L
forest_grown trees = from_each (λ t. grown_links t.branches) trees

abbrev pub forest_roots : {L : Type 0} → List (TreeOf L) → List ℕ
forest_roots trees = map (λ t. t.root) trees

-- the roles that all trees give
abbrev pub forest_roles : {L : Type 0} → List (TreeOf L) → Roles
forest_roles trees = record { is_plus = is_in (forest_plus trees); is_minus = is_in (forest_minus trees) }

-- The matched links are those of all trees and the rest. No node is in two trees, and all defects under trees have one parity. The
-- unmatched nodes are the roots, and others that wait: these are in no tree, and their potentials are even.
pub record IsForest (p : Problem) (nodes : List Node) (trees : List (TreeOf Link)) (rest : List Link) (unmatched waiting : List ℕ) (r : ℕ) : Type 0 where
  pub matching : IsMatching p nodes (forest_paired trees ++ rest) unmatched
  pub outer : All (λ t. IsOuterNode nodes t.root) trees
  pub roots : (n : ℕ) → is_in unmatched n ≡ is_in (forest_roots trees ++ waiting) n
  pub apart : (n : ℕ) → is_in waiting n ≡ true → is_in (forest_names trees) n ≡ false
  pub even : HaveParity (is_in waiting) nodes 0
  pub names : AreDistinct (forest_names trees)
  pub joined : All (λ t. IsTree nodes t.root t.branches) trees
  pub grown : AreMatchedLinks p nodes (forest_grown trees)
  pub parity : HaveParity (is_in (forest_names trees)) nodes r

-- the root alone
abbrev pub bare_tree : ℕ → TreeOf Link
bare_tree root = record { root = root; branches = [] }

-- It begins with trees at some of the unmatched nodes. The others wait.
abbrev pub ForestBegins : Type 0
ForestBegins = (p : Problem) (nodes : List Node) (links : List Link) (unmatched roots waiting : List ℕ)
    → IsWork p nodes links unmatched → AreDistinct (roots ++ waiting)
    → ((n : ℕ) → is_in unmatched n ≡ is_in (roots ++ waiting) n) → All (λ n. IsOuterNode nodes n) roots
    → IsForest p nodes (map bare_tree roots) links unmatched waiting 0

-- Each tree is that of a search, where the matched links of the other trees are among the rest.
abbrev pub ForestTree : Type 0
ForestTree = (p : Problem) (nodes : List Node) (before after : List (TreeOf Link)) (t : TreeOf Link) (rest : List Link)
    (unmatched waiting : List ℕ) (r : ℕ) → IsForest p nodes (before ++ t ∷ after) rest unmatched waiting r
    → IsSearch p nodes t.branches (forest_paired (before ++ after) ++ rest) unmatched t.root r

-- The trees' names are those of outer nodes, and none is both plus and minus.
abbrev pub ForestRoles : Type 0
ForestRoles = (p : Problem) (nodes : List Node) (trees : List (TreeOf Link)) (rest : List Link) (unmatched waiting : List ℕ) (r : ℕ)
    → IsForest p nodes trees rest unmatched waiting r → AreRoles (forest_roles trees) nodes

-- Each link of a tree, each matched one, and each other one gains as much as it loses by a step of all trees.
abbrev pub ForestLevel : Type 0
ForestLevel = (p : Problem) (nodes : List Node) (trees : List (TreeOf Link)) (rest : List Link) (unmatched waiting : List ℕ) (r : ℕ)
    → IsForest p nodes trees rest unmatched waiting r
    → All (λ l. gains (forest_roles trees) nodes (pair l.from l.to) ≡ losses (forest_roles trees) nodes (pair l.from l.to))
    (forest_grown trees ++ (forest_paired trees ++ rest))

-- A step of all trees by one length keeps the forest.
abbrev pub ForestStepped : Type 0
ForestStepped = (p : Problem) (nodes : List Node) (trees : List (TreeOf Link)) (rest : List Link) (unmatched waiting : List ℕ)
    (r k : ℕ) → AllowShrinking (forest_roles trees) nodes k → IsDual p (stepped_nodes (forest_roles trees) k nodes)
    → IsForest p nodes trees rest unmatched waiting r
    → IsForest p (stepped_nodes (forest_roles trees) k nodes) trees rest unmatched waiting ((r + k) % 2)

-- a tree with one branch more
abbrev pub attached_tree : TreeOf Link → Entry → TreeOf Link
attached_tree t e = record { root = t.root; branches = e ∷ t.branches }

-- A plus node that meets a node in no tree attaches it and the one that it is matched to.
abbrev pub ForestAttached : Type 0
ForestAttached = (p : Problem) (nodes : List Node) (before after : List (TreeOf Link)) (t : TreeOf Link) (e : Entry)
    (rest : List Link) (unmatched waiting : List ℕ) (r : ℕ) → AreEven p
    → IsForest p nodes (before ++ t ∷ after) (e.matched ∷ rest) unmatched waiting r
    → is_in (plus_names t.root t.branches) e.parent ≡ true → Connects nodes e.tree e.parent e.minus
    → Connects nodes e.matched e.minus e.plus → AreMatchedLinks p nodes (e.tree ∷ [])
    → IsForest p nodes (before ++ attached_tree t e ∷ after) rest unmatched waiting r

-- Any of the trees may come first.
abbrev pub ForestFirst : Type 0
ForestFirst = (p : Problem) (nodes : List Node) (before after : List (TreeOf Link)) (t : TreeOf Link) (rest : List Link)
    (unmatched waiting : List ℕ) (r : ℕ) → IsForest p nodes (before ++ t ∷ after) rest unmatched waiting r
    → IsForest p nodes (t ∷ (before ++ after)) rest unmatched waiting r

-- A tree may have any of its plus nodes for its root: along the path there links of the tree take the place of matched
-- ones, and that node is unmatched in the place of the root.
abbrev pub MatchingRerooted : Type 0
MatchingRerooted = (p : Problem) (nodes : List Node) (name tip : ℕ) (root : List ℕ) (path : List Branch) (rest : List Link)
    (unmatched : List ℕ) → IsMatching p nodes (matched_links path ++ rest) unmatched → IsSetOf nodes name root
    → IsSetOf nodes tip (tip_of root path) → is_in unmatched name ≡ true → All (IsBranchOf nodes) path → IsPath root path
    → AreMatchedLinks p nodes (tree_links path)
    → IsMatching p nodes (tree_links path ++ rest) (tip ∷ names_without name unmatched)

-- the links that match two trees that meet: along both paths, between them, and beside the paths
abbrev pub met_links : TreeOf Link → ℕ → Link → TreeOf Link → ℕ → List Link
met_links t a out s b =
    grown_links (path_to t.branches a)
    ++ out ∷ (grown_links (path_to s.branches b)
    ++ (paired_links (branches_beside s.branches b) ++ paired_links (branches_beside t.branches a)))

-- Two trees whose plus nodes meet are matched along both paths and dissolved, and their roots are matched.
abbrev pub ForestMet : Type 0
ForestMet = (p : Problem) (nodes : List Node) (t s : TreeOf Link) (others : List (TreeOf Link)) (rest : List Link)
    (unmatched waiting : List ℕ) (r a b : ℕ) (out : Link) → IsForest p nodes (t ∷ s ∷ others) rest unmatched waiting r
    → is_in (plus_names t.root t.branches) a ≡ true → is_in (plus_names s.root s.branches) b ≡ true
    → AreMatchedLinks p nodes (out ∷ []) → Connects nodes out a b
    → IsForest p nodes others (met_links t a out s b ++ rest) (names_without t.root (names_without s.root unmatched)) waiting r

-- A tree that meets the boundary is matched along the path there, and dissolved.
abbrev pub ForestEnded : Type 0
ForestEnded = (p : Problem) (nodes : List Node) (t : TreeOf Link) (others : List (TreeOf Link)) (rest : List Link)
    (unmatched waiting : List ℕ) (r name : ℕ) (out : Link) (v : ℕ) → IsForest p nodes (t ∷ others) rest unmatched waiting r
    → is_in (plus_names t.root t.branches) name ≡ true → AreMatchedLinks p nodes (out ∷ []) → LeavesNode nodes out name v
    → p.is_real v ≡ false
    → IsForest p nodes others
    ((grown_links (path_to t.branches name) ++ out ∷ paired_links (branches_beside t.branches name)) ++ rest)
    (names_without t.root unmatched) waiting r

-- So is one that meets a node matched to the boundary, whose link there is taken away.
abbrev pub ForestReleased : Type 0
ForestReleased = (p : Problem) (nodes : List Node) (t : TreeOf Link) (others : List (TreeOf Link)) (old : Link)
    (rest : List Link) (unmatched waiting : List ℕ) (r name other : ℕ) (out : Link) (b : ℕ)
    → IsForest p nodes (t ∷ others) (old ∷ rest) unmatched waiting r → is_in (plus_names t.root t.branches) name ≡ true
    → AreMatchedLinks p nodes (out ∷ []) → Connects nodes out name other → LeavesNode nodes old other b
    → p.is_real b ≡ false
    → IsForest p nodes others
    ((grown_links (path_to t.branches name) ++ out ∷ paired_links (branches_beside t.branches name)) ++ rest)
    (names_without t.root unmatched) waiting r

-- A tree may begin at a node that waits, once one of the others meets it.
abbrev pub ForestWoken : Type 0
ForestWoken = (p : Problem) (nodes : List Node) (trees : List (TreeOf Link)) (rest : List Link) (unmatched waiting others : List ℕ)
    (r a name : ℕ) (out : Link) → AreEven p → IsForest p nodes trees rest unmatched waiting r
    → IsPermutation waiting (name ∷ others) → AreDistinct waiting → IsOuterNode nodes name
    → is_in (forest_plus trees) a ≡ true → AreMatchedLinks p nodes (out ∷ []) → Connects nodes out a name
    → IsForest p nodes (trees ++ bare_tree name ∷ []) rest unmatched others r

-- With no tree left, the part is as it is between searches.
abbrev pub ForestDone : Type 0
ForestDone = (p : Problem) (nodes : List Node) (rest : List Link) (unmatched waiting : List ℕ) (r : ℕ)
    → IsForest p nodes [] rest unmatched waiting r
    → IsWork p nodes rest unmatched × ((n : ℕ) → is_in unmatched n ≡ is_in waiting n)
