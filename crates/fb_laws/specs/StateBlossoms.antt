-- A cycle of a search's tree that becomes a blossom, which keeps the links round it.
use Rattle.std.specs.Prelude.{ℕ, ◌≡◌, ◌≤◌, ◌==◌, true, false, List, [], ◌∷◌, ◌++◌, map, length, if◌then◌else◌}
use Rattle.fb_graph.specs.Parity.{is_in}
use Rattle.fb_graph.specs.Problem.{Problem}
use Rattle.fb_graph.specs.Laws.{Link}
use Rattle.fb_graph.specs.Dual.{is_live}
use Rattle.fb_graph.specs.Moves.{joined_nodes}
use Rattle.fb_laws.specs.Forming.{Child, names_of}
use Rattle.fb_laws.specs.PartStates.{SearchState, IsSearchState}
use Rattle.fb_laws.specs.SearchBlossoms.{IsJoining, joined_tree, renamed_name}
use Rattle.fb_laws.specs.TreeCycles.{AreLinked, ArePaths, cycle_links, cycle_nodes, last_plus}
use Rattle.fb_laws.specs.Trees.{Entry, Connects, plus_names}
use Rattle.fb_laws.specs.Works.{AreMatchedLinks}

-- the links round a further blossom
abbrev pub with_cycle : ℕ → List Link → (ℕ → List Link) → ℕ → List Link
with_cycle name links cycles n = if n == name then links else cycles n

-- these nodes of the tree as one blossom, which takes the place of each of them
abbrev pub joined_state : ℕ → List ℕ → List Link → SearchState → SearchState
joined_state name children links s = record {
  nodes = joined_nodes name children s.nodes;
  cycles = with_cycle name links s.cycles;
  tree = joined_tree (is_in children) name s.tree;
  rest = s.rest;
  unmatched = map (renamed_name (is_in children) name) s.unmatched;
  root = renamed_name (is_in children) name s.root;
  parity = s.parity;
}

-- Branches with their base may be joined under a name that no node has, given tight links round them.
abbrev pub StateJoined : Type 0
StateJoined = (p : Problem) (s : SearchState) (name : ℕ) (base : Child) (others : List Child) (links : List Link)
    → IsJoining s.nodes s.tree s.root name base others → 1 ≤ length others → is_live s.nodes name ≡ false
    → AreLinked s.nodes base.name (names_of others ++ base.name ∷ []) links → AreMatchedLinks p s.nodes links
    → IsSearchState p s → IsSearchState p (joined_state name (names_of (base ∷ others)) links s)

-- two different plus nodes with a tight link between them, and a name that no node has
pub record MayClose (p : Problem) (s : SearchState) (name a b : ℕ) (closing : Link) : Type 0 where
  pub first : is_in (plus_names s.root s.tree) a ≡ true
  pub second : is_in (plus_names s.root s.tree) b ≡ true
  pub differ : a ≡ b → ⊥
  pub connects : Connects s.nodes closing a b
  pub tight : AreMatchedLinks p s.nodes (closing ∷ [])
  pub fresh : is_live s.nodes name ≡ false

-- So the cycle that the link closes may be joined, from the node on at which the paths to the two part.
abbrev pub StateClosed : Type 0
StateClosed = (p : Problem) (s : SearchState) (name a b : ℕ) (closing : Link) (shared up down : List Entry)
    → MayClose p s name a b closing → ArePaths s.tree a b shared up down → IsSearchState p s
    → IsSearchState p
    (joined_state name (last_plus s.root shared ∷ cycle_nodes up down) (cycle_links up closing down) s)

-- And a minus node with its parent and its child, given a tight link between these two.
abbrev pub StateRounded : Type 0
StateRounded = (p : Problem) (s : SearchState) (name : ℕ) (newer older : List Entry) (e : Entry) (closing : Link)
    → s.tree ≡ newer ++ e ∷ older → Connects s.nodes closing e.plus e.parent → AreMatchedLinks p s.nodes (closing ∷ [])
    → is_live s.nodes name ≡ false → IsSearchState p s
    → IsSearchState p
    (joined_state name (e.parent ∷ e.minus ∷ e.plus ∷ []) (e.tree ∷ e.matched ∷ closing ∷ []) s)
