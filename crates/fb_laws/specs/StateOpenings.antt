-- A minus blossom of a search's tree opened along its cycle, in a half-solved part.
use Rattle.std.specs.Prelude.{ℕ, ◌≡◌, List, [], ◌∷◌, ◌++◌, All}
use Rattle.fb_graph.specs.Problem.{Problem}
use Rattle.fb_graph.specs.Laws.{Link}
use Rattle.fb_graph.specs.Dual.{Node}
use Rattle.fb_graph.specs.Moves.{MaySplit, split_nodes}
use Rattle.fb_graph.specs.Nests.{IsNest}
use Rattle.fb_laws.specs.OpenedCycles.{Couple, IsOpenedCycle, Pass, matched_beside, opened_tree}
use Rattle.fb_laws.specs.PartStates.{SearchState, AreCycles, IsSearchState}
use Rattle.fb_laws.specs.TreeCycles.{AreLinked}
use Rattle.fb_laws.specs.Trees.{Entry}
use Rattle.fb_laws.specs.Works.{AreMatchedLinks}

-- a link from each of the nodes to the next, and one from the last to the first
abbrev pub AreLinkedRound : List Node → List ℕ → List Link → Type 0
AreLinkedRound nodes [] links = Unit {0}
AreLinkedRound nodes (first ∷ names) links = AreLinked nodes first (names ++ first ∷ []) links

-- the links lead round the node's children once it is split
pub record IsFreed (p : Problem) (nodes : List Node) (children : List ℕ) (name : ℕ) (links : List Link) : Type 0 where
  pub linked : AreLinkedRound (split_nodes name nodes) children links
  pub tight : AreMatchedLinks p nodes links

-- When a blossom is split, its children are outer again, and the links of its cycle lead from each to the next.
abbrev pub CycleFreed : Type 0
CycleFreed = (p : Problem) (nodes : List Node) (cycles : ℕ → List Link) (name : ℕ) → MaySplit nodes name → IsNest p nodes
    → AreCycles p nodes cycles → All (λ n. n.name ≡ name → IsFreed p nodes n.children name (cycles name)) nodes

-- the tree with the branches along the way in the place of the blossom's branch e, and the couples beside it matched
abbrev pub opened_state : List Entry → List Entry → Entry → ℕ → List Pass → List Couple → SearchState → SearchState
opened_state newer older e from way couples s = record s {
  nodes = split_nodes e.minus s.nodes;
  tree = opened_tree newer e older from way;
  rest = matched_beside couples ++ s.rest;
}

-- A minus blossom with one layer, of value 0, may be opened along the even way round its cycle between the two children
-- at which its links end.
abbrev pub StateOpened : Type 0
StateOpened = (p : Problem) (s : SearchState) (newer older : List Entry) (e : Entry) (from : ℕ) (way : List Pass)
    (couples : List Couple) → s.tree ≡ newer ++ e ∷ older → MaySplit s.nodes e.minus
    → IsOpenedCycle p s.nodes (split_nodes e.minus s.nodes) e from way couples s.unmatched → IsSearchState p s
    → IsSearchState p (opened_state newer older e from way couples s)

-- There always is such a way.
abbrev pub StateOpens : Type 0
StateOpens = (p : Problem) (s : SearchState) (newer older : List Entry) (e : Entry) → s.tree ≡ newer ++ e ∷ older
    → MaySplit s.nodes e.minus → IsSearchState p s
    → (from : ℕ) × (way : List Pass) × (couples : List Couple)
    × IsOpenedCycle p s.nodes (split_nodes e.minus s.nodes) e from way couples s.unmatched
