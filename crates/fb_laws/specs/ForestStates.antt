-- The whole state of a half-solved part while several trees grow: its nodes, the links round its blossoms, its trees, its
-- other matched links and its unmatched nodes: the roots of the trees, and nodes that wait (Edmonds 1965).
use Rattle.std.specs.Prelude.{ℕ, ◌≡◌, ◌≤◌, true, false, List, [], ◌∷◌, ◌++◌, map, length}
use Rattle.std.specs.List.Sorted.{IsPermutation}
use Rattle.fb_graph.specs.Parity.{is_in}
use Rattle.fb_graph.specs.Problem.{Problem}
use Rattle.fb_graph.specs.Certificate.{AreDistinct}
use Rattle.fb_graph.specs.Laws.{Link, HasNoOddClosed}
use Rattle.fb_graph.specs.Dual.{Node, is_live, is_outer}
use Rattle.fb_graph.specs.Covers.{HasNoObstacle}
use Rattle.fb_graph.specs.Links.{AreEven}
use Rattle.fb_graph.specs.Nests.{IsNest}
use Rattle.fb_graph.specs.SourceWalks.{HaveWalks}
use Rattle.fb_laws.specs.Forests.{AnyTree, IsForest, bare_tree, forest_grown, forest_names, forest_paired, forest_roles}
use Rattle.fb_laws.specs.Lengths.{IsGreatestStep}
use Rattle.fb_laws.specs.MatchLinks.{HasMatch}
use Rattle.fb_laws.specs.PartStates.{AreCycles, AreLiveNames, IsPartState, PartState, SearchState, all_cycle_links}
use Rattle.fb_laws.specs.StateOrders.{AgreeAt}
use Rattle.fb_laws.specs.Trees.{Connects}
use Rattle.fb_laws.specs.UnmatchedNames.{AreOuterNames}
use Rattle.fb_laws.specs.Works.{AreMatchedLinks}

-- a part while several trees grow
pub record ForestState : Type 0 where
  pub nodes : List Node
  -- the links round each blossom, by its name
  pub cycles : ℕ → List Link
  pub trees : List AnyTree
  -- the matched links that are no tree's
  pub rest : List Link
  pub unmatched : List ℕ
  -- those of them that are no roots
  pub waiting : List ℕ
  -- the parity of the potentials of all defects under trees
  pub parity : ℕ

-- what holds while they grow
pub record IsForestState (p : Problem) (s : ForestState) : Type 0 where
  pub nest : IsNest p s.nodes
  pub forest : IsForest p s.nodes s.trees s.rest s.unmatched s.waiting s.parity
  pub walks : HaveWalks p s.nodes
  pub outer : AreOuterNames s.nodes s.unmatched
  pub cycles : AreCycles p s.nodes s.cycles
  pub names : AreLiveNames s.nodes s.unmatched
  pub waiting : AreDistinct s.waiting

-- the part with trees in it, and these nodes that wait
abbrev pub with_trees : List AnyTree → List ℕ → ℕ → PartState → ForestState
with_trees trees waiting parity s = record {
  nodes = s.nodes;
  cycles = s.cycles;
  trees = trees;
  rest = s.matches;
  unmatched = s.unmatched;
  waiting = waiting;
  parity = parity;
}

-- a tree at each of these nodes, the root alone
abbrev pub begun_forest : List ℕ → List ℕ → PartState → ForestState
begun_forest roots waiting s = with_trees (map bare_tree roots) waiting 0 s

abbrev pub tree_of : SearchState → AnyTree
tree_of s = record { root = s.root; branches = s.tree }

-- The state of a search, whose tree stands among others, while these nodes wait. A move of this tree is the move of the search, and
-- leaves the others as they are.
abbrev pub among_trees : List AnyTree → List AnyTree → List ℕ → SearchState → ForestState
among_trees before after waiting s = record {
  nodes = s.nodes;
  cycles = s.cycles;
  trees = before ++ tree_of s ∷ after;
  rest = s.rest;
  unmatched = s.unmatched;
  waiting = waiting;
  parity = s.parity;
}

-- the part without its trees
abbrev pub part_of : ForestState → PartState
part_of s = record { nodes = s.nodes; cycles = s.cycles; matches = s.rest; unmatched = s.unmatched }

-- Trees begin at some of the unmatched nodes of a part between searches.
abbrev pub ForestStateBegins : Type 0
ForestStateBegins = (p : Problem) (s : PartState) (roots waiting : List ℕ) → IsPartState p s → AreDistinct (roots ++ waiting)
    → ((n : ℕ) → is_in s.unmatched n ≡ is_in (roots ++ waiting) n) → IsForestState p (begun_forest roots waiting s)

-- With no tree left the part is as it is between searches, and the unmatched nodes are those that wait.
abbrev pub ForestStateDone : Type 0
ForestStateDone = (p : Problem) (s : ForestState) → s.trees ≡ [] → IsForestState p s
    → IsPartState p (part_of s) × ((n : ℕ) → is_in s.unmatched n ≡ is_in s.waiting n)

-- The order of the trees and of the other matched links doesn't matter,
abbrev pub ForestStatePermuted : Type 0
ForestStatePermuted = (p : Problem) (s : ForestState) (trees : List AnyTree) (rest : List Link)
    → IsPermutation s.trees trees → IsPermutation s.rest rest → IsForestState p s
    → IsForestState p (record s { trees = trees; rest = rest })

-- nor does that of the unmatched names and of those that wait, nor links that are kept for names that no node has.
abbrev pub ForestStateRelisted : Type 0
ForestStateRelisted = (p : Problem) (s : ForestState) (cycles : ℕ → List Link) (unmatched waiting : List ℕ)
    → AgreeAt s.nodes s.cycles cycles → AreDistinct unmatched
    → ((n : ℕ) → is_in unmatched n ≡ is_in s.unmatched n) → AreDistinct waiting
    → ((n : ℕ) → is_in waiting n ≡ is_in s.waiting n) → IsForestState p s
    → IsForestState p (record s { cycles = cycles; unmatched = unmatched; waiting = waiting })

-- All links that are kept: those of the trees, the other matched ones and those of cycles.
abbrev pub forest_links : ForestState → List Link
forest_links s =
    forest_grown s.trees ++ (forest_paired s.trees ++ (s.rest ++ all_cycle_links s.nodes s.cycles))

-- Each of them is a tight link between defects, or from a defect to the boundary.
abbrev pub ForestTight : Type 0
ForestTight = (p : Problem) (s : ForestState) → IsForestState p s → AreMatchedLinks p s.nodes (forest_links s)

-- An outer node that is in no tree and doesn't wait has just one match, beside the trees.
abbrev pub ForestMatchOfMet : Type 0
ForestMatchOfMet = (p : Problem) (s : ForestState) (name : ℕ) → IsForestState p s → is_live s.nodes name ≡ true
    → is_outer s.nodes name ≡ true → is_in (forest_names s.trees) name ≡ false → is_in s.waiting name ≡ false
    → HasMatch p s.nodes s.rest name

-- Its mate is in no tree either.
abbrev pub ForestMateOutside : Type 0
ForestMateOutside = (p : Problem) (s : ForestState) (before : List Link) (l : Link) (after : List Link) (name mate : ℕ)
    → s.rest ≡ before ++ l ∷ after → Connects s.nodes l name mate → IsForestState p s
    → (is_in (forest_names s.trees) name ≡ false) × (is_in (forest_names s.trees) mate ≡ false)

-- As long as there is a tree they are not stuck: if they have no obstacle, a free step is allowed, and there is a greatest one.
abbrev pub ForestStateFree : Type 0
ForestStateFree = (p : Problem) (s : ForestState) → AreEven p → HasNoOddClosed p → 1 ≤ length s.trees
    → HasNoObstacle p (forest_roles s.trees) s.nodes → IsForestState p s
    → (k : ℕ) × (1 ≤ k) × IsGreatestStep p (forest_roles s.trees) s.nodes k
