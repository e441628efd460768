-- A minus blossom of one of several trees opened along its cycle, in a half-solved part: the others stay as they are.
use Rattle.std.specs.Prelude.{ℕ, ◌≡◌, List, ◌∷◌, ◌++◌, get_or}
use Rattle.fb_graph.specs.Problem.{Problem}
use Rattle.fb_graph.specs.Moves.{MaySplit, split_nodes}
use Rattle.fb_laws.specs.Forests.{AnyTree}
use Rattle.fb_laws.specs.ForestStates.{IsForestState, among_trees}
use Rattle.fb_laws.specs.OpenedCycles.{Couple, IsOpenedCycle, Pass}
use Rattle.fb_laws.specs.PartStates.{SearchState}
use Rattle.fb_laws.specs.RingWays.{couples_after, way_to}
use Rattle.fb_laws.specs.StateOpenings.{opened_state}
use Rattle.fb_laws.specs.StateRings.{MayOpenAlong, round_of, state_along}
use Rattle.fb_laws.specs.Trees.{Entry}

-- A minus blossom with one layer, of value 0, may be opened along the even way round its cycle between the two children
-- at which its links end.
abbrev pub ForestStateOpened : Type 0
ForestStateOpened = (p : Problem) (before after : List AnyTree) (waiting : List ℕ) (s : SearchState) (newer older : List Entry) (e : Entry)
    (from : ℕ) (way : List Pass) (couples : List Couple) → s.tree ≡ newer ++ e ∷ older → MaySplit s.nodes e.minus
    → IsOpenedCycle p s.nodes (split_nodes e.minus s.nodes) e from way couples s.unmatched
    → IsForestState p (among_trees before after waiting s)
    → IsForestState p (among_trees before after waiting (opened_state newer older e from way couples s))

-- From the places of the two children on the blossom's ring follow the way between them
abbrev pub ForestCycleAlong : Type 0
ForestCycleAlong = (p : Problem) (before after : List AnyTree) (waiting : List ℕ) (s : SearchState) (newer older : List Entry) (e : Entry)
    (children : List ℕ) (place steps : ℕ) → IsForestState p (among_trees before after waiting s)
    → MayOpenAlong s newer older e children place steps
    → IsOpenedCycle p s.nodes (split_nodes e.minus s.nodes) e (get_or children place 0)
    (way_to steps (round_of s e children place)) (couples_after steps (round_of s e children place)) s.unmatched

-- and the state after the blossom is opened.
abbrev pub ForestOpenedAlong : Type 0
ForestOpenedAlong = (p : Problem) (before after : List AnyTree) (waiting : List ℕ) (s : SearchState) (newer older : List Entry) (e : Entry)
    (children : List ℕ) (place steps : ℕ) → IsForestState p (among_trees before after waiting s)
    → MayOpenAlong s newer older e children place steps
    → IsForestState p (among_trees before after waiting (state_along s newer older e children place steps))
