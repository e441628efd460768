-- A minus blossom of a half-solved part opened along its ring: the children at which its two links end, and the state
-- after it as a function of their places.
use Rattle.std.specs.Prelude.{ℕ, ◌≡◌, ◌<◌, ◌⊎◌, true, List, [], ◌∷◌, ◌++◌, length, get_or, All}
use Rattle.fb_graph.specs.Parity.{is_in}
use Rattle.fb_graph.specs.Problem.{Problem}
use Rattle.fb_graph.specs.Laws.{Link}
use Rattle.fb_graph.specs.Dual.{Node, top_at}
use Rattle.fb_graph.specs.Moves.{MaySplit, split_nodes}
use Rattle.fb_graph.specs.Nests.{IsNest}
use Rattle.fb_laws.specs.OpenedCycles.{IsOpenedCycle}
use Rattle.fb_laws.specs.OpenedLinks.{round_from}
use Rattle.fb_laws.specs.PartStates.{SearchState, IsSearchState}
use Rattle.fb_laws.specs.RingWays.{Round, couples_after, round_at, way_to}
use Rattle.fb_laws.specs.StateOpenings.{opened_state}
use Rattle.fb_laws.specs.Trees.{Connects, Entry}
use Rattle.fb_laws.specs.Works.{AreMatchedLinks}

-- A link that ends under a blossom ends, once it is split, under the child whose set holds one of its ends.
abbrev pub ChildAtEnd : Type 0
ChildAtEnd = (p : Problem) (nodes : List Node) (name other child d : ℕ) (l : Link) → IsNest p nodes
    → MaySplit nodes name → AreMatchedLinks p nodes (l ∷ []) → (other ≡ name → ⊥) → Connects nodes l other name
    → All (λ n. n.name ≡ name → is_in n.children child ≡ true) nodes → is_in (top_at nodes child) d ≡ true
    → (d ≡ l.from) ⊎ (d ≡ l.to) → Connects (split_nodes name nodes) l other child

-- A minus blossom of the tree with its children. The link of the tree ends at the child at `place`, the matched link
-- `steps` children on.
pub record MayOpenAlong (s : SearchState) (newer older : List Entry) (e : Entry) (children : List ℕ) (place steps : ℕ) : Type 0 where
  pub tree : s.tree ≡ newer ++ e ∷ older
  pub may_split : MaySplit s.nodes e.minus
  pub children_are : All (λ n. n.name ≡ e.minus → n.children ≡ children) s.nodes
  pub place_below : place < length children
  pub steps_below : steps < length children
  pub above : Connects (split_nodes e.minus s.nodes) e.tree e.parent (get_or children place 0)
  pub below : Connects (split_nodes e.minus s.nodes) e.matched (get_or (round_from place children) steps 0) e.plus

-- the blossom's ring from that place on
abbrev pub round_of : SearchState → Entry → List ℕ → ℕ → Round Link
round_of s e children place = round_at place children (s.cycles e.minus)

-- the tree with the even way round in the place of the blossom, and the couples beside it matched
abbrev pub state_along : SearchState → List Entry → List Entry → Entry → List ℕ → ℕ → ℕ → SearchState
state_along s newer older e children place steps =
    opened_state newer older e (get_or children place 0) (way_to steps (round_of s e children place))
    (couples_after steps (round_of s e children place)) s

-- It is the state after the blossom is opened.
abbrev pub CycleAlong : Type 0
CycleAlong = (p : Problem) (s : SearchState) (newer older : List Entry) (e : Entry) (children : List ℕ)
    (place steps : ℕ) → IsSearchState p s → MayOpenAlong s newer older e children place steps
    → IsOpenedCycle p s.nodes (split_nodes e.minus s.nodes) e (get_or children place 0)
    (way_to steps (round_of s e children place)) (couples_after steps (round_of s e children place)) s.unmatched

abbrev pub StateOpenedAlong : Type 0
StateOpenedAlong = (p : Problem) (s : SearchState) (newer older : List Entry) (e : Entry) (children : List ℕ)
    (place steps : ℕ) → IsSearchState p s → MayOpenAlong s newer older e children place steps
    → IsSearchState p (state_along s newer older e children place steps)
