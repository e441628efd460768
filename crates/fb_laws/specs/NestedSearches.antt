-- The whole state of a search: its nest, its matched links and its tree, with source walks inside each set and with
-- the unmatched names all outer. Each step keeps all of it, so that none asks for the dual state that it leads to.
use Rattle.std.specs.Prelude.{ℕ, ◌≡◌, ◌+◌, ◌%◌, ◌≤◌, true, false, List, [], ◌∷◌, ◌++◌, map, length, All}
use Rattle.fb_graph.specs.Parity.{is_in}
use Rattle.fb_graph.specs.Problem.{Problem}
use Rattle.fb_graph.specs.Certificate.{AreDistinct}
use Rattle.fb_graph.specs.Limits.{IsWithinLimits}
use Rattle.fb_graph.specs.Laws.{Link, HasNoOddClosed}
use Rattle.fb_graph.specs.Dual.{Node, is_live}
use Rattle.fb_graph.specs.Steps.{MayStep, stepped_nodes}
use Rattle.fb_graph.specs.Covers.{HasNoObstacle, HaveParity}
use Rattle.fb_laws.specs.Lengths.{IsGreatestStep}
use Rattle.fb_graph.specs.Links.{AreEven}
use Rattle.fb_graph.specs.Singles.{Single, nodes_of, vertices_of}
use Rattle.fb_laws.specs.Works.{AreMatchedLinks, IsWork, names_without}
use Rattle.fb_laws.specs.Forming.{Child, names_of}
use Rattle.fb_laws.specs.Trees.{Entry, Connects, grown_links, paired_links, plus_names, roles_of, path_to, branches_beside}
use Rattle.fb_laws.specs.Searches.{IsOuterNode, IsSearch, LeavesNode}
use Rattle.fb_laws.specs.SearchBlossoms.{IsJoining, joined_tree, renamed_name}
use Rattle.fb_laws.specs.SearchOpenings.{IsOpenedTree}
use Rattle.fb_graph.specs.Nests.{IsNest}
use Rattle.fb_graph.specs.Moves.{MaySplit, MayAbsorb, MayUncover, joined_nodes, split_nodes, absorbed_nodes, uncovered_nodes}
use Rattle.fb_graph.specs.SourceWalks.{HaveWalks}
use Rattle.fb_laws.specs.UnmatchedNames.{AreOuterNames}

-- what holds between searches
pub record IsNestedWork (p : Problem) (nodes : List Node) (links : List Link) (unmatched : List ℕ) : Type 0 where
  pub nest : IsNest p nodes
  pub work : IsWork p nodes links unmatched
  pub walks : HaveWalks p nodes
  pub outer : AreOuterNames nodes unmatched

-- What holds while a tree grows. The potentials of the other unmatched nodes are even.
pub record IsNestedSearch (p : Problem) (nodes : List Node) (tree : List Entry) (rest : List Link)
    (unmatched : List ℕ) (root r : ℕ) : Type 0 where
  pub nest : IsNest p nodes
  pub search : IsSearch p nodes tree rest unmatched root r
  pub even : HaveParity (is_in (names_without root unmatched)) nodes 0
  pub walks : HaveWalks p nodes
  pub outer : AreOuterNames nodes unmatched

-- A part begins with its defects as nodes without values, all unmatched.
abbrev pub NestedWorkBegins : Type 0
NestedWorkBegins = (p : Problem) (singles : List Single) → AreDistinct (map (λ s. s.name) singles)
    → AreDistinct (vertices_of singles) → All (λ s. p.is_real s.vertex ≡ true) singles
    → All (λ s. s.value ≡ 0) singles
    → ((v : ℕ) → p.is_real v ≡ true → p.is_defect v ≡ is_in (vertices_of singles) v)
    → IsNestedWork p (nodes_of singles) [] (map (λ s. s.name) singles)

-- A search begins with an unmatched node.
abbrev pub NestedSearchBegins : Type 0
NestedSearchBegins = (p : Problem) (nodes : List Node) (links : List Link) (unmatched : List ℕ) (root : ℕ)
    → IsNestedWork p nodes links unmatched → IsOuterNode nodes root → is_in unmatched root ≡ true
    → IsNestedSearch p nodes [] links unmatched root 0

-- No search is stuck: if the tree has no obstacle, a free step is allowed, and there is a greatest one.
abbrev pub NestedFree : Type 0
NestedFree = (p : Problem) (nodes : List Node) (tree : List Entry) (rest : List Link) (unmatched : List ℕ)
    (root r : ℕ) → AreEven p → HasNoOddClosed p → HasNoObstacle p (roles_of root tree) nodes
    → IsNestedSearch p nodes tree rest unmatched root r
    → (k : ℕ) × (1 ≤ k) × IsGreatestStep p (roles_of root tree) nodes k

-- A free step, if no closed set is odd: then an edge leaves each plus node.
abbrev pub NestedStepped : Type 0
NestedStepped = (p : Problem) (nodes : List Node) (tree : List Entry) (rest : List Link) (unmatched : List ℕ)
    (root r k : ℕ) → IsWithinLimits p → HasNoOddClosed p → MayStep p (roles_of root tree) nodes k
    → IsNestedSearch p nodes tree rest unmatched root r
    → IsNestedSearch p (stepped_nodes (roles_of root tree) k nodes) tree rest unmatched root ((r + k) % 2)

-- A vertex absorbed by any outer node.
abbrev pub NestedAbsorbed : Type 0
NestedAbsorbed = (p : Problem) (nodes : List Node) (tree : List Entry) (rest : List Link) (unmatched : List ℕ)
    (root r name k u v : ℕ) → AreEven p → MayAbsorb p nodes name k u v
    → IsNestedSearch p nodes tree rest unmatched root r
    → IsNestedSearch p (absorbed_nodes name v nodes) tree rest unmatched root r

-- An empty top layer taken off.
abbrev pub NestedUncovered : Type 0
NestedUncovered = (p : Problem) (nodes : List Node) (tree : List Entry) (rest : List Link) (unmatched : List ℕ)
    (root r name : ℕ) → MayUncover nodes name → IsNestedSearch p nodes tree rest unmatched root r
    → IsNestedSearch p (uncovered_nodes name nodes) tree rest unmatched root r

-- Two matched nodes attached.
abbrev pub NestedAttached : Type 0
NestedAttached = (p : Problem) (nodes : List Node) (tree : List Entry) (e : Entry) (rest : List Link)
    (unmatched : List ℕ) (root r : ℕ) → AreEven p → IsNestedSearch p nodes tree (e.matched ∷ rest) unmatched root r
    → is_in (plus_names root tree) e.parent ≡ true → Connects nodes e.tree e.parent e.minus
    → Connects nodes e.matched e.minus e.plus → AreMatchedLinks p nodes (e.tree ∷ [])
    → IsNestedSearch p nodes (e ∷ tree) rest unmatched root r

-- Branches joined with their base to a blossom, under a name that no node has. No child stays among the unmatched
-- names.
abbrev pub NestedJoined : Type 0
NestedJoined = (p : Problem) (nodes : List Node) (tree : List Entry) (rest : List Link) (unmatched remaining : List ℕ)
    (root r name : ℕ) (base : Child) (others : List Child) → IsJoining nodes tree root name base others
    → 1 ≤ length others → is_live nodes name ≡ false → is_in remaining name ≡ is_in unmatched base.name
    → ((n : ℕ) → is_in (names_of (base ∷ others)) n ≡ true → is_in remaining n ≡ false)
    → ((n : ℕ) → is_in (names_of (base ∷ others)) n ≡ false → (n ≡ name → ⊥) → is_in remaining n ≡ is_in unmatched n)
    → IsNestedSearch p nodes tree rest unmatched root r
    → IsNestedSearch p (joined_nodes name (names_of (base ∷ others)) nodes)
    (joined_tree (is_in (names_of (base ∷ others))) name tree) rest remaining
    (renamed_name (is_in (names_of (base ∷ others))) name root) r

-- A minus blossom without value opened.
abbrev pub NestedOpened : Type 0
NestedOpened = (p : Problem) (nodes : List Node) (newer older tree : List Entry) (e : Entry) (kept : ℕ)
    (paired : List ℕ) (more rest later : List Link) (unmatched : List ℕ) (root r : ℕ) → MaySplit nodes e.minus
    → IsOpenedTree p nodes (split_nodes e.minus nodes) newer older tree e kept paired more rest later unmatched root
    → IsNestedSearch p nodes (newer ++ e ∷ older) rest unmatched root r
    → IsNestedSearch p (split_nodes e.minus nodes) tree later unmatched root r

-- The root matched to the boundary.
abbrev pub NestedEnded : Type 0
NestedEnded = (p : Problem) (nodes : List Node) (tree : List Entry) (rest : List Link) (unmatched : List ℕ)
    (root r name : ℕ) (out : Link) (v : ℕ) → IsNestedSearch p nodes tree rest unmatched root r
    → is_in (plus_names root tree) name ≡ true → AreMatchedLinks p nodes (out ∷ []) → LeavesNode nodes out name v
    → p.is_real v ≡ false
    → IsNestedWork p nodes (grown_links (path_to tree name) ++ out ∷ (paired_links (branches_beside tree name) ++ rest))
    (names_without root unmatched)

-- The root matched with another unmatched node.
abbrev pub NestedMet : Type 0
NestedMet = (p : Problem) (nodes : List Node) (tree : List Entry) (rest : List Link) (unmatched : List ℕ)
    (root r name other : ℕ) (out : Link) → IsNestedSearch p nodes tree rest unmatched root r
    → is_in (plus_names root tree) name ≡ true → is_in unmatched other ≡ true → (root ≡ other → ⊥)
    → AreMatchedLinks p nodes (out ∷ []) → Connects nodes out name other
    → IsNestedWork p nodes (grown_links (path_to tree name) ++ out ∷ (paired_links (branches_beside tree name) ++ rest))
    (names_without root (names_without other unmatched))

-- The root matched with a node that was matched to the boundary.
abbrev pub NestedReleased : Type 0
NestedReleased = (p : Problem) (nodes : List Node) (tree : List Entry) (old : Link) (rest : List Link)
    (unmatched : List ℕ) (root r name other : ℕ) (out : Link) (b : ℕ)
    → IsNestedSearch p nodes tree (old ∷ rest) unmatched root r → is_in (plus_names root tree) name ≡ true
    → AreMatchedLinks p nodes (out ∷ []) → Connects nodes out name other → LeavesNode nodes old other b
    → p.is_real b ≡ false
    → IsNestedWork p nodes (grown_links (path_to tree name) ++ out ∷ (paired_links (branches_beside tree name) ++ rest))
    (names_without root unmatched)
