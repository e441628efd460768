-- Each move of a search leaves less to do, so that a search ends.
use Rattle.std.specs.Prelude.{ℕ, ◌≡◌, Bool, true, false, List, [], ◌∷◌, ◌++◌}
use Rattle.fb_graph.specs.Parity.{is_in}
use Rattle.fb_graph.specs.Problem.{Problem}
use Rattle.fb_graph.specs.Limits.{IsWithinLimits}
use Rattle.fb_graph.specs.Laws.{Link}
use Rattle.fb_graph.specs.Dual.{is_live}
use Rattle.fb_graph.specs.Links.{AreEven}
use Rattle.fb_graph.specs.Moves.{MaySplit, MayAbsorb, MayUncover, split_nodes, absorbed_nodes, uncovered_nodes}
use Rattle.fb_laws.specs.Measures.{IsLower}
use Rattle.fb_laws.specs.OpenedCycles.{Couple, IsOpenedCycle, Pass}
use Rattle.fb_laws.specs.PartStates.{SearchState, IsSearchState}
use Rattle.fb_laws.specs.SearchLayers.{left_to_do}
use Rattle.fb_laws.specs.StateBlossoms.{MayClose, joined_state}
use Rattle.fb_laws.specs.StateMoves.{MayAttach, attached_state, relayered_state, state_roles, stepped_state}
use Rattle.fb_laws.specs.StateOpenings.{opened_state}
use Rattle.fb_laws.specs.TreeCycles.{ArePaths, cycle_links, cycle_nodes, last_plus}
use Rattle.fb_laws.specs.Trees.{Entry, Connects, minus_names, plus_names}
use Rattle.fb_laws.specs.Works.{AreMatchedLinks}

-- what the search has still to do; the last part is whether its next step is free
abbrev pub still_to_do : Problem → SearchState → Bool → List ℕ
still_to_do p s free = left_to_do p s.nodes (state_roles s) free

-- A free step, after which the next one isn't free.
abbrev pub SteppedLess : Type 0
SteppedLess = (p : Problem) (s : SearchState) (k : ℕ)
    → IsLower (still_to_do p (stepped_state k s) false) (still_to_do p s true)

-- A vertex absorbed by a plus node.
abbrev pub AbsorbedLess : Type 0
AbsorbedLess = (p : Problem) (s : SearchState) (name k u v : ℕ) (free freed : Bool) → IsWithinLimits p
    → MayAbsorb p s.nodes name k u v → is_in (plus_names s.root s.tree) name ≡ true → IsSearchState p s
    → IsLower (still_to_do p (relayered_state (absorbed_nodes name v s.nodes) s) freed) (still_to_do p s free)

-- An empty layer of a minus node taken off.
abbrev pub UncoveredLess : Type 0
UncoveredLess = (p : Problem) (s : SearchState) (name : ℕ) (free freed : Bool) → MayUncover s.nodes name
    → is_in (minus_names s.tree) name ≡ true → IsSearchState p s
    → IsLower (still_to_do p (relayered_state (uncovered_nodes name s.nodes) s) freed) (still_to_do p s free)

-- A branch attached.
abbrev pub AttachedLess : Type 0
AttachedLess = (p : Problem) (s : SearchState) (e : Entry) (rest : List Link) (free freed : Bool) → AreEven p
    → MayAttach p s e rest → IsSearchState p s
    → IsLower (still_to_do p (attached_state e rest s) freed) (still_to_do p s free)

-- A cycle joined.
abbrev pub ClosedLess : Type 0
ClosedLess = (p : Problem) (s : SearchState) (name a b : ℕ) (closing : Link) (shared up down : List Entry)
    (free freed : Bool) → MayClose p s name a b closing → ArePaths s.tree a b shared up down → IsSearchState p s
    → IsLower
    (still_to_do p
    (joined_state name (last_plus s.root shared ∷ cycle_nodes up down) (cycle_links up closing down) s) freed)
    (still_to_do p s free)

-- A minus node joined with its parent and its child.
abbrev pub RoundedLess : Type 0
RoundedLess = (p : Problem) (s : SearchState) (name : ℕ) (newer older : List Entry) (e : Entry) (closing : Link)
    (free freed : Bool) → s.tree ≡ newer ++ e ∷ older → Connects s.nodes closing e.plus e.parent
    → AreMatchedLinks p s.nodes (closing ∷ []) → is_live s.nodes name ≡ false → IsSearchState p s
    → IsLower
    (still_to_do p
    (joined_state name (e.parent ∷ e.minus ∷ e.plus ∷ []) (e.tree ∷ e.matched ∷ closing ∷ []) s) freed)
    (still_to_do p s free)

-- A minus blossom opened.
abbrev pub OpenedLess : Type 0
OpenedLess = (p : Problem) (s : SearchState) (newer older : List Entry) (e : Entry) (from : ℕ) (way : List Pass)
    (couples : List Couple) (free freed : Bool) → s.tree ≡ newer ++ e ∷ older → MaySplit s.nodes e.minus
    → IsOpenedCycle p s.nodes (split_nodes e.minus s.nodes) e from way couples s.unmatched → IsSearchState p s
    → IsLower (still_to_do p (opened_state newer older e from way couples s) freed) (still_to_do p s free)
