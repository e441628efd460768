-- The moves of several trees in a half-solved part, each of which keeps the whole state (Edmonds 1965).
use Rattle.std.specs.Prelude.{ℕ, ◌≡◌, ◌+◌, ◌%◌, ◌<◌, true, false, List, [], ◌∷◌, ◌++◌, length}
use Rattle.std.specs.List.Sorted.{IsPermutation}
use Rattle.fb_graph.specs.Parity.{is_in}
use Rattle.fb_graph.specs.Problem.{Problem}
use Rattle.fb_graph.specs.Limits.{IsWithinLimits}
use Rattle.fb_graph.specs.Laws.{Link, HasNoOddClosed}
use Rattle.fb_graph.specs.Dual.{Node}
use Rattle.fb_graph.specs.Links.{AreEven}
use Rattle.fb_graph.specs.Moves.{MayAbsorb, MayUncover, absorbed_nodes, uncovered_nodes}
use Rattle.fb_graph.specs.Steps.{MayStep, stepped_nodes}
use Rattle.fb_laws.specs.Forests.{AnyTree, bare_tree, forest_plus, forest_roles, met_links}
use Rattle.fb_laws.specs.ForestStates.{ForestState, IsForestState, among_trees, with_trees}
use Rattle.fb_laws.specs.PartStates.{SearchState}
use Rattle.fb_laws.specs.Searches.{LeavesNode}
use Rattle.fb_laws.specs.StateMoves.{LeavesTree, MayAttach, attached_state, ended_state}
use Rattle.fb_laws.specs.Trees.{Connects, Entry, plus_names}
use Rattle.fb_laws.specs.Works.{AreMatchedLinks, names_without}

-- a step of all trees
abbrev pub stepped_forest : ℕ → ForestState → ForestState
stepped_forest k s = record s { nodes = stepped_nodes (forest_roles s.trees) k s.nodes; parity = (s.parity + k) % 2 }

abbrev pub ForestStateStepped : Type 0
ForestStateStepped = (p : Problem) (s : ForestState) (k : ℕ) → IsWithinLimits p → HasNoOddClosed p
    → MayStep p (forest_roles s.trees) s.nodes k → IsForestState p s → IsForestState p (stepped_forest k s)

-- other layers, all else as it was
abbrev pub relayered_forest : List Node → ForestState → ForestState
relayered_forest nodes s = record s { nodes = nodes }

-- A vertex may be absorbed by any outer node, and an empty top layer taken off.
abbrev pub ForestStateAbsorbed : Type 0
ForestStateAbsorbed = (p : Problem) (s : ForestState) (name k u v : ℕ) → AreEven p → MayAbsorb p s.nodes name k u v
    → IsForestState p s → IsForestState p (relayered_forest (absorbed_nodes name v s.nodes) s)

abbrev pub ForestStateUncovered : Type 0
ForestStateUncovered = (p : Problem) (s : ForestState) (name : ℕ) → MayUncover s.nodes name → IsForestState p s
    → IsForestState p (relayered_forest (uncovered_nodes name s.nodes) s)

-- A branch may be attached to one of the trees, as to that of a search.
abbrev pub ForestStateAttached : Type 0
ForestStateAttached = (p : Problem) (before after : List AnyTree) (waiting : List ℕ) (s : SearchState) (e : Entry) (rest : List Link)
    → AreEven p → MayAttach p s e rest → IsForestState p (among_trees before after waiting s)
    → IsForestState p (among_trees before after waiting (attached_state e rest s))

-- the state after trees are dissolved, with fewer unmatched nodes
pub record IsFewer (p : Problem) (s after : ForestState) : Type 0 where
  pub state : IsForestState p after
  pub fewer : length after.unmatched < length s.unmatched

-- one tree dissolved, the others as they were
abbrev pub ended_forest : List AnyTree → List AnyTree → List ℕ → ℕ → Link → List Link → SearchState → ForestState
ended_forest before after waiting name out rest s =
    with_trees (before ++ after) waiting s.parity (ended_state name out rest (names_without s.root s.unmatched) s)

-- A tree ends at the boundary,
abbrev pub ForestStateEnded : Type 0
ForestStateEnded = (p : Problem) (before after : List AnyTree) (waiting : List ℕ) (s : SearchState) (name : ℕ) (out : Link) (v : ℕ)
    → LeavesTree p s name out → LeavesNode s.nodes out name v → p.is_real v ≡ false
    → IsForestState p (among_trees before after waiting s)
    → IsFewer p (among_trees before after waiting s) (ended_forest before after waiting name out s.rest s)

-- or at a node that was matched to the boundary,
abbrev pub ForestStateReleased : Type 0
ForestStateReleased = (p : Problem) (before after : List AnyTree) (waiting : List ℕ) (s : SearchState) (name other : ℕ) (out old : Link)
    (rest : List Link) (b : ℕ) → LeavesTree p s name out → Connects s.nodes out name other
    → IsPermutation s.rest (old ∷ rest) → LeavesNode s.nodes old other b → p.is_real b ≡ false
    → IsForestState p (among_trees before after waiting s)
    → IsFewer p (among_trees before after waiting s) (ended_forest before after waiting name out rest s)

-- or at a node that waits, with which it is matched,
abbrev pub ForestStateMatched : Type 0
ForestStateMatched = (p : Problem) (before after : List AnyTree) (waiting others : List ℕ) (s : SearchState) (name other : ℕ) (out : Link)
    → AreEven p → LeavesTree p s name out → Connects s.nodes out name other → IsPermutation waiting (other ∷ others)
    → IsForestState p (among_trees before after waiting s)
    → IsFewer p (among_trees before after waiting s)
    (with_trees (before ++ after) others s.parity
    (ended_state name out s.rest (names_without other (names_without s.root s.unmatched)) s))

-- two trees dissolved
abbrev pub met_forest : AnyTree → ℕ → Link → AnyTree → ℕ → List AnyTree → ForestState → ForestState
met_forest t a out u b others s = record s {
  trees = others;
  rest = met_links t a out u b ++ s.rest;
  unmatched = names_without t.root (names_without u.root s.unmatched);
}

-- or at a plus node of another tree, which is dissolved too.
abbrev pub ForestStateMet : Type 0
ForestStateMet = (p : Problem) (s : ForestState) (t u : AnyTree) (others : List AnyTree) (a b : ℕ) (out : Link)
    → IsPermutation s.trees (t ∷ u ∷ others) → is_in (plus_names t.root t.branches) a ≡ true
    → is_in (plus_names u.root u.branches) b ≡ true → AreMatchedLinks p s.nodes (out ∷ []) → Connects s.nodes out a b
    → IsForestState p s → IsFewer p s (met_forest t a out u b others s)

-- A tree begins at a node that waits, once one of the others meets it.
abbrev pub ForestStateWoken : Type 0
ForestStateWoken = (p : Problem) (s : ForestState) (others : List ℕ) (a name : ℕ) (out : Link) → AreEven p
    → IsPermutation s.waiting (name ∷ others) → is_in (forest_plus s.trees) a ≡ true → AreMatchedLinks p s.nodes (out ∷ [])
    → Connects s.nodes out a name → IsForestState p s
    → IsForestState p (record s { trees = s.trees ++ bare_tree name ∷ []; waiting = others })
