-- Each move of several trees leaves less to do, so that they end.
use Rattle.std.specs.Prelude.{ℕ, ◌≡◌, Bool, true, false, List, [], ◌∷◌, ◌++◌}
use Rattle.fb_graph.specs.Problem.{Problem}
use Rattle.fb_graph.specs.Limits.{IsWithinLimits}
use Rattle.fb_graph.specs.Laws.{Link}
use Rattle.fb_graph.specs.Dual.{is_live}
use Rattle.fb_graph.specs.Links.{AreEven}
use Rattle.fb_graph.specs.Moves.{MaySplit, MayAbsorb, MayUncover, split_nodes, absorbed_nodes, uncovered_nodes}
use Rattle.fb_laws.specs.Forests.{AnyTree, forest_roles}
use Rattle.fb_laws.specs.ForestMoves.{relayered_forest, stepped_forest}
use Rattle.fb_laws.specs.ForestStates.{ForestState, IsForestState, among_trees}
use Rattle.fb_laws.specs.Measures.{IsLower}
use Rattle.fb_laws.specs.OpenedCycles.{Couple, IsOpenedCycle, Pass}
use Rattle.fb_laws.specs.PartStates.{SearchState}
use Rattle.fb_laws.specs.SearchLayers.{left_to_do}
use Rattle.fb_laws.specs.StateBlossoms.{MayClose, joined_state}
use Rattle.fb_laws.specs.StateMoves.{MayAttach, attached_state}
use Rattle.fb_laws.specs.StateOpenings.{opened_state}
use Rattle.fb_laws.specs.TreeCycles.{ArePaths, cycle_links, cycle_nodes, last_plus}
use Rattle.fb_laws.specs.Trees.{Connects, Entry}
use Rattle.fb_laws.specs.Works.{AreMatchedLinks}

-- what all trees have still to do; the last part is whether the next step is free
abbrev pub forest_to_do : Problem → ForestState → Bool → List ℕ
forest_to_do p s free = left_to_do p s.nodes (forest_roles s.trees) free

-- A free step, after which the next one isn't free.
abbrev pub ForestSteppedLess : Type 0
ForestSteppedLess = (p : Problem) (s : ForestState) (k : ℕ)
    → IsLower (forest_to_do p (stepped_forest k s) false) (forest_to_do p s true)

-- A vertex absorbed by a plus node.
abbrev pub ForestAbsorbedLess : Type 0
ForestAbsorbedLess = (p : Problem) (s : ForestState) (name k u v : ℕ) (free freed : Bool) → IsWithinLimits p
    → MayAbsorb p s.nodes name k u v → (forest_roles s.trees).is_plus name ≡ true → IsForestState p s
    → IsLower (forest_to_do p (relayered_forest (absorbed_nodes name v s.nodes) s) freed) (forest_to_do p s free)

-- An empty layer of a minus node taken off.
abbrev pub ForestUncoveredLess : Type 0
ForestUncoveredLess = (p : Problem) (s : ForestState) (name : ℕ) (free freed : Bool) → MayUncover s.nodes name
    → (forest_roles s.trees).is_minus name ≡ true → IsForestState p s
    → IsLower (forest_to_do p (relayered_forest (uncovered_nodes name s.nodes) s) freed) (forest_to_do p s free)

-- A branch attached.
abbrev pub ForestAttachedLess : Type 0
ForestAttachedLess = (p : Problem) (before after : List AnyTree) (waiting : List ℕ) (s : SearchState) (e : Entry) (rest : List Link)
    (free freed : Bool) → AreEven p → MayAttach p s e rest → IsForestState p (among_trees before after waiting s)
    → IsLower (forest_to_do p (among_trees before after waiting (attached_state e rest s)) freed)
    (forest_to_do p (among_trees before after waiting s) free)

-- A cycle joined.
abbrev pub ForestClosedLess : Type 0
ForestClosedLess = (p : Problem) (before after : List AnyTree) (waiting : List ℕ) (s : SearchState) (name a b : ℕ) (closing : Link)
    (shared up down : List Entry) (free freed : Bool) → MayClose p s name a b closing
    → ArePaths s.tree a b shared up down → IsForestState p (among_trees before after waiting s)
    → IsLower
    (forest_to_do p
    (among_trees before after waiting
    (joined_state name (last_plus s.root shared ∷ cycle_nodes up down) (cycle_links up closing down) s)) freed)
    (forest_to_do p (among_trees before after waiting s) free)

-- A minus node joined with its parent and its child.
abbrev pub ForestRoundedLess : Type 0
ForestRoundedLess = (p : Problem) (before after : List AnyTree) (waiting : List ℕ) (s : SearchState) (name : ℕ) (newer older : List Entry)
    (e : Entry) (closing : Link) (free freed : Bool) → s.tree ≡ newer ++ e ∷ older
    → Connects s.nodes closing e.plus e.parent → AreMatchedLinks p s.nodes (closing ∷ [])
    → is_live s.nodes name ≡ false → IsForestState p (among_trees before after waiting s)
    → IsLower
    (forest_to_do p
    (among_trees before after waiting
    (joined_state name (e.parent ∷ e.minus ∷ e.plus ∷ []) (e.tree ∷ e.matched ∷ closing ∷ []) s)) freed)
    (forest_to_do p (among_trees before after waiting s) free)

-- A minus blossom opened.
abbrev pub ForestOpenedLess : Type 0
ForestOpenedLess = (p : Problem) (before after : List AnyTree) (waiting : List ℕ) (s : SearchState) (newer older : List Entry) (e : Entry)
    (from : ℕ) (way : List Pass) (couples : List Couple) (free freed : Bool) → s.tree ≡ newer ++ e ∷ older
    → MaySplit s.nodes e.minus
    → IsOpenedCycle p s.nodes (split_nodes e.minus s.nodes) e from way couples s.unmatched
    → IsForestState p (among_trees before after waiting s)
    → IsLower (forest_to_do p (among_trees before after waiting (opened_state newer older e from way couples s)) freed)
    (forest_to_do p (among_trees before after waiting s) free)
