-- A cycle of one of several trees that becomes a blossom, in a half-solved part: the others stay as they are.
use Rattle.std.specs.Prelude.{ℕ, ◌≡◌, ◌+◌, ◌≤◌, false, List, [], ◌∷◌, ◌++◌, length}
use Rattle.fb_graph.specs.Parity.{is_in}
use Rattle.fb_graph.specs.Problem.{Problem}
use Rattle.fb_graph.specs.Certificate.{AreDistinct}
use Rattle.fb_graph.specs.Laws.{Link}
use Rattle.fb_graph.specs.Dual.{is_live}
use Rattle.fb_laws.specs.Forests.{AnyTree}
use Rattle.fb_laws.specs.ForestStates.{IsForestState, among_trees}
use Rattle.fb_laws.specs.Forming.{Child, names_of}
use Rattle.fb_laws.specs.PartStates.{SearchState}
use Rattle.fb_laws.specs.SearchBlossoms.{IsJoining, inner_branches}
use Rattle.fb_laws.specs.StateBlossoms.{MayClose, joined_state}
use Rattle.fb_laws.specs.TreeCycles.{AreLinked, ArePaths, cycle_links, cycle_nodes, last_plus}
use Rattle.fb_laws.specs.Trees.{Connects, Entry}
use Rattle.fb_laws.specs.Works.{AreMatchedLinks}

-- Branches of one tree with their base may be joined under a name that no node has, given tight links round them.
abbrev pub ForestStateJoined : Type 0
ForestStateJoined = (p : Problem) (before after : List AnyTree) (waiting : List ℕ) (s : SearchState) (name : ℕ) (base : Child)
    (others : List Child) (links : List Link) → IsJoining s.nodes s.tree s.root name base others → 1 ≤ length others
    → is_live s.nodes name ≡ false → AreLinked s.nodes base.name (names_of others ++ base.name ∷ []) links
    → AreMatchedLinks p s.nodes links → IsForestState p (among_trees before after waiting s)
    → IsForestState p (among_trees before after waiting (joined_state name (names_of (base ∷ others)) links s))

-- So may the cycle that a link between two of its plus nodes closes,
abbrev pub ForestStateClosed : Type 0
ForestStateClosed = (p : Problem) (before after : List AnyTree) (waiting : List ℕ) (s : SearchState) (name a b : ℕ) (closing : Link)
    (shared up down : List Entry) → MayClose p s name a b closing → ArePaths s.tree a b shared up down
    → IsForestState p (among_trees before after waiting s)
    → IsForestState p
    (among_trees before after waiting
    (joined_state name (last_plus s.root shared ∷ cycle_nodes up down) (cycle_links up closing down) s))

-- and a minus node with its parent and its child, given a tight link between these two.
abbrev pub ForestStateRounded : Type 0
ForestStateRounded = (p : Problem) (before after : List AnyTree) (waiting : List ℕ) (s : SearchState) (name : ℕ) (newer older : List Entry)
    (e : Entry) (closing : Link) → s.tree ≡ newer ++ e ∷ older → Connects s.nodes closing e.plus e.parent
    → AreMatchedLinks p s.nodes (closing ∷ []) → is_live s.nodes name ≡ false
    → IsForestState p (among_trees before after waiting s)
    → IsForestState p
    (among_trees before after waiting
    (joined_state name (e.parent ∷ e.minus ∷ e.plus ∷ []) (e.tree ∷ e.matched ∷ closing ∷ []) s))

-- Such a cycle has each node once, and takes in as many branches as the two paths have after they part.
abbrev pub ForestCycleCounted : Type 0
ForestCycleCounted = (p : Problem) (before after : List AnyTree) (waiting : List ℕ) (s : SearchState) (name a b : ℕ) (closing : Link)
    (shared up down : List Entry) → MayClose p s name a b closing → ArePaths s.tree a b shared up down
    → IsForestState p (among_trees before after waiting s)
    → AreDistinct (last_plus s.root shared ∷ cycle_nodes up down)
    × (length (inner_branches (is_in (last_plus s.root shared ∷ cycle_nodes up down)) s.tree) ≡ length up + length down)
