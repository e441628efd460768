-- The whole state of a half-solved part: its nodes, the links round its blossoms, its matched links and its unmatched
-- nodes; and the same while a tree grows.
use Rattle.std.specs.Prelude.{ℕ, ◌≡◌, true, List, [], ◌∷◌, ◌++◌, All, flat_map, if◌then◌else◌}
use Rattle.fb_graph.specs.Parity.{is_in}
use Rattle.fb_graph.specs.Problem.{Problem}
use Rattle.fb_graph.specs.Certificate.{AreDistinct}
use Rattle.fb_graph.specs.Laws.{Link}
use Rattle.fb_graph.specs.Dual.{Node, is_empty, is_live}
use Rattle.fb_graph.specs.Nests.{child_sets}
use Rattle.fb_laws.specs.NestedSearches.{IsNestedSearch, IsNestedWork}
use Rattle.fb_laws.specs.Paths.{Joins}
use Rattle.fb_laws.specs.Searches.{IsOuterNode}
use Rattle.fb_laws.specs.Trees.{Entry, grown_links, paired_links}
use Rattle.fb_laws.specs.Works.{AreMatchedLinks}

-- each link leads from one set to the next, the first one from `from`
abbrev pub AreChained : List ℕ → List (List ℕ) → List Link → Type 0
AreChained from [] [] = Unit {0}
AreChained from (set ∷ sets) (l ∷ links) = Joins l from set × AreChained set sets links
AreChained from (set ∷ sets) [] = ⊥
AreChained from [] (l ∷ links) = ⊥

-- a link from each set to the next, and one from the last set back to the first
abbrev pub IsRing : List (List ℕ) → List Link → Type 0
IsRing [] links = Unit {0}
IsRing (first ∷ sets) links = AreChained first (sets ++ first ∷ []) links

-- the links round a node, if it is a blossom, given those of each blossom by its name
abbrev pub links_at : (ℕ → List Link) → Node → List Link
links_at cycles n = if is_empty n.children then [] else cycles n.name

-- the links of all cycles
abbrev pub all_cycle_links : List Node → (ℕ → List Link) → List Link
all_cycle_links nodes cycles = flat_map (links_at cycles) nodes

-- Round the children of each blossom, in their order, leads a ring of tight links. Children of outer blossoms are outer
-- again when the blossom is opened, so this is said of their sets, outer or not.
pub record AreCycles (p : Problem) (nodes : List Node) (cycles : ℕ → List Link) : Type 0 where
  pub rings : All (λ n. IsRing (child_sets nodes n) (cycles n.name)) nodes
  pub links : AreMatchedLinks p nodes (all_cycle_links nodes cycles)

-- names of nodes, each once
pub record AreLiveNames (nodes : List Node) (names : List ℕ) : Type 0 where
  pub live : (n : ℕ) → is_in names n ≡ true → is_live nodes n ≡ true
  pub distinct : AreDistinct names

-- a part between searches
pub record PartState : Type 0 where
  pub nodes : List Node
  -- the links round each blossom, by its name
  pub cycles : ℕ → List Link
  pub matches : List Link
  pub unmatched : List ℕ

-- a part while a tree grows
pub record SearchState : Type 0 where
  pub nodes : List Node
  pub cycles : ℕ → List Link
  pub tree : List Entry
  -- the matched links that are not the tree's
  pub rest : List Link
  pub unmatched : List ℕ
  pub root : ℕ
  -- the parity of the potentials of the tree's defects
  pub parity : ℕ

-- what holds between searches
pub record IsPartState (p : Problem) (s : PartState) : Type 0 where
  pub work : IsNestedWork p s.nodes s.matches s.unmatched
  pub cycles : AreCycles p s.nodes s.cycles
  pub names : AreLiveNames s.nodes s.unmatched

-- what holds while a tree grows
pub record IsSearchState (p : Problem) (s : SearchState) : Type 0 where
  pub search : IsNestedSearch p s.nodes s.tree s.rest s.unmatched s.root s.parity
  pub cycles : AreCycles p s.nodes s.cycles
  pub names : AreLiveNames s.nodes s.unmatched

-- The links that a part keeps: the matched ones and those of cycles. All others may be forgotten.
abbrev pub live_links : PartState → List Link
live_links s = s.matches ++ all_cycle_links s.nodes s.cycles

-- While a tree grows, its own links are kept too.
abbrev pub search_links : SearchState → List Link
search_links s = grown_links s.tree ++ (paired_links s.tree ++ (s.rest ++ all_cycle_links s.nodes s.cycles))

-- All of them are tight links between defects, or from a defect to the boundary.
abbrev pub LiveTight : Type 0
LiveTight = (p : Problem) (s : PartState) → IsPartState p s → AreMatchedLinks p s.nodes (live_links s)

abbrev pub SearchTight : Type 0
SearchTight = (p : Problem) (s : SearchState) → IsSearchState p s → AreMatchedLinks p s.nodes (search_links s)

-- Each unmatched name is that of an outer node, so that a search can begin there.
abbrev pub UnmatchedOuter : Type 0
UnmatchedOuter = (p : Problem) (s : PartState) (name : ℕ) → IsPartState p s → is_in s.unmatched name ≡ true
    → IsOuterNode s.nodes name
