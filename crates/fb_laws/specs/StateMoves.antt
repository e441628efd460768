-- The moves of a half-solved part, each of which keeps the whole state.
use Rattle.std.specs.Prelude.{ℕ, ◌≡◌, ◌+◌, ◌%◌, ◌≤◌, ◌<◌, true, false, List, [], ◌∷◌, ◌++◌, map, length, All}
use Rattle.std.specs.List.Sorted.{IsPermutation}
use Rattle.fb_graph.specs.Parity.{is_in}
use Rattle.fb_graph.specs.Problem.{Problem}
use Rattle.fb_graph.specs.Certificate.{AreDistinct}
use Rattle.fb_graph.specs.Limits.{IsWithinLimits}
use Rattle.fb_graph.specs.Laws.{Link, HasNoOddClosed}
use Rattle.fb_graph.specs.Dual.{Node}
use Rattle.fb_graph.specs.Covers.{HasNoObstacle}
use Rattle.fb_laws.specs.Lengths.{IsGreatestStep}
use Rattle.fb_graph.specs.Links.{AreEven}
use Rattle.fb_graph.specs.Moves.{MayAbsorb, MayUncover, absorbed_nodes, uncovered_nodes}
use Rattle.fb_laws.specs.PartStates.{PartState, SearchState, IsPartState, IsSearchState}
use Rattle.fb_laws.specs.Searches.{LeavesNode}
use Rattle.fb_graph.specs.Singles.{Single, nodes_of, vertices_of}
use Rattle.fb_graph.specs.Steps.{Roles, MayStep, stepped_nodes}
use Rattle.fb_laws.specs.Trees.{Entry, Connects, branches_beside, grown_links, paired_links, path_to, plus_names, roles_of}
use Rattle.fb_laws.specs.Works.{AreMatchedLinks, names_without}

-- the nodes of single defects, all unmatched
abbrev pub begun_state : List Single → PartState
begun_state singles = record {
  nodes = nodes_of singles;
  cycles = λ n. [];
  matches = [];
  unmatched = map (λ s. s.name) singles;
}

-- A part begins with its defects, each a node without value.
abbrev pub PartBegins : Type 0
PartBegins = (p : Problem) (singles : List Single) → AreDistinct (map (λ s. s.name) singles)
    → AreDistinct (vertices_of singles) → All (λ s. p.is_real s.vertex ≡ true) singles
    → All (λ s. s.value ≡ 0) singles
    → ((v : ℕ) → p.is_real v ≡ true → p.is_defect v ≡ is_in (vertices_of singles) v)
    → IsPartState p (begun_state singles)

-- the tree of the root alone
abbrev pub search_from : ℕ → PartState → SearchState
search_from root s = record {
  nodes = s.nodes;
  cycles = s.cycles;
  tree = [];
  rest = s.matches;
  unmatched = s.unmatched;
  root = root;
  parity = 0;
}

-- A search may begin from any unmatched name.
abbrev pub SearchFrom : Type 0
SearchFrom = (p : Problem) (s : PartState) (root : ℕ) → IsPartState p s → is_in s.unmatched root ≡ true
    → IsSearchState p (search_from root s)

abbrev pub state_roles : SearchState → Roles
state_roles s = roles_of s.root s.tree

-- No search is stuck.
abbrev pub StateFree : Type 0
StateFree = (p : Problem) (s : SearchState) → AreEven p → HasNoOddClosed p → HasNoObstacle p (state_roles s) s.nodes
    → IsSearchState p s
    → (k : ℕ) × (1 ≤ k) × IsGreatestStep p (state_roles s) s.nodes k

-- after a step of the tree by k
abbrev pub stepped_state : ℕ → SearchState → SearchState
stepped_state k s = record s { nodes = stepped_nodes (state_roles s) k s.nodes; parity = (s.parity + k) % 2 }

abbrev pub StateStepped : Type 0
StateStepped = (p : Problem) (s : SearchState) (k : ℕ) → IsWithinLimits p → HasNoOddClosed p
    → MayStep p (state_roles s) s.nodes k → IsSearchState p s → IsSearchState p (stepped_state k s)

-- other layers, all else as it was
abbrev pub relayered_state : List Node → SearchState → SearchState
relayered_state nodes s = record s { nodes = nodes }

-- A vertex may be absorbed by any outer node, and an empty top layer taken off.
abbrev pub StateAbsorbed : Type 0
StateAbsorbed = (p : Problem) (s : SearchState) (name k u v : ℕ) → AreEven p → MayAbsorb p s.nodes name k u v
    → IsSearchState p s → IsSearchState p (relayered_state (absorbed_nodes name v s.nodes) s)

abbrev pub StateUncovered : Type 0
StateUncovered = (p : Problem) (s : SearchState) (name : ℕ) → MayUncover s.nodes name → IsSearchState p s
    → IsSearchState p (relayered_state (uncovered_nodes name s.nodes) s)

-- A branch may be attached if a tight link leads from a plus node to one that is matched to another. (Neither of
-- the two is in the tree, since each node has one match.)
pub record MayAttach (p : Problem) (s : SearchState) (e : Entry) (rest : List Link) : Type 0 where
  pub links : IsPermutation s.rest (e.matched ∷ rest)
  pub parent : is_in (plus_names s.root s.tree) e.parent ≡ true
  pub tree : Connects s.nodes e.tree e.parent e.minus
  pub matched : Connects s.nodes e.matched e.minus e.plus
  pub tight : AreMatchedLinks p s.nodes (e.tree ∷ [])

abbrev pub attached_state : Entry → List Link → SearchState → SearchState
attached_state e rest s = record s { tree = e ∷ s.tree; rest = rest }

abbrev pub StateAttached : Type 0
StateAttached = (p : Problem) (s : SearchState) (e : Entry) (rest : List Link) → AreEven p → MayAttach p s e rest
    → IsSearchState p s → IsSearchState p (attached_state e rest s)

-- The tree dissolved: on the path to the named plus node links of the tree are matched in the place of matched links,
-- with a link out of this node.
abbrev pub ended_state : ℕ → Link → List Link → List ℕ → SearchState → PartState
ended_state name out rest unmatched s = record {
  nodes = s.nodes;
  cycles = s.cycles;
  matches = grown_links (path_to s.tree name) ++ out ∷ (paired_links (branches_beside s.tree name) ++ rest);
  unmatched = unmatched;
}

-- It is a state between searches, with fewer unmatched nodes. The root is none of them any more.
pub record IsEnded (p : Problem) (s : SearchState) (after : PartState) : Type 0 where
  pub state : IsPartState p after
  pub fewer : length after.unmatched < length s.unmatched
  pub matched : is_in after.unmatched s.root ≡ false
  pub others : (n : ℕ) → is_in after.unmatched n ≡ true → is_in s.unmatched n ≡ true

-- a tight link out of a plus node
pub record LeavesTree (p : Problem) (s : SearchState) (name : ℕ) (out : Link) : Type 0 where
  pub plus : is_in (plus_names s.root s.tree) name ≡ true
  pub tight : AreMatchedLinks p s.nodes (out ∷ [])

-- So a search ends at the boundary,
abbrev pub StateEnded : Type 0
StateEnded = (p : Problem) (s : SearchState) (name : ℕ) (out : Link) (v : ℕ) → LeavesTree p s name out
    → LeavesNode s.nodes out name v → p.is_real v ≡ false → IsSearchState p s
    → IsEnded p s (ended_state name out s.rest (names_without s.root s.unmatched) s)

-- at another unmatched node,
abbrev pub StateMet : Type 0
StateMet = (p : Problem) (s : SearchState) (name other : ℕ) (out : Link) → LeavesTree p s name out
    → Connects s.nodes out name other → is_in s.unmatched other ≡ true → (s.root ≡ other → ⊥) → IsSearchState p s
    → IsEnded p s (ended_state name out s.rest (names_without s.root (names_without other s.unmatched)) s)

-- or at a node that was matched to the boundary.
abbrev pub StateReleased : Type 0
StateReleased = (p : Problem) (s : SearchState) (name other : ℕ) (out old : Link) (rest : List Link) (b : ℕ)
    → LeavesTree p s name out → Connects s.nodes out name other → IsPermutation s.rest (old ∷ rest)
    → LeavesNode s.nodes old other b → p.is_real b ≡ false → IsSearchState p s
    → IsEnded p s (ended_state name out rest (names_without s.root s.unmatched) s)
