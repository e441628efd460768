-- The steps of a blossom's cycle as they are read when it is opened.
use Rattle.std.specs.Prelude.{ℕ, ◌≡◌, ◌≢◌, ◌+◌, ◌==◌, ◌*◌, ◌%◌, true, List, [], ◌∷◌, ◌++◌, drop, map, take, reverse, Some, if◌then◌else◌}
use Rattle.fb_graph.specs.Dual.{Node}
use Rattle.fb_graph.specs.Parity.{is_in}
use Rattle.fb_graph.specs.Moves.{MaySplit, split_nodes}
use Rattle.fb_graph.specs.Nests.{IsNest}
use Rattle.fb_laws.specs.Trees.{Connects}
use Rattle.fb_laws.specs.Works.{AreMatchedLinks}
use Rattle.fb_links.specs.declared.cycle.CycleStep.{CycleStep}
use Rattle.fb_links.specs.Table.{is_live}
use Rattle.fb_blossoms.specs.Nodes.{cycle_at, is_on}
use Rattle.fb_half.specs.declared.matches.Match.{Match}
use Rattle.fb_half.specs.Parts.{AreAgreed, PartValue, problem_in}
use Rattle.fb_half.specs.Translations.{link_by}
use Rattle.fb_regions.specs.Moves.{node_named}
use Rattle.fb_regions.specs.declared.roles.Role.{Role}
use Rattle.fb_regions.specs.declared.roles.Role.TheVariants.{Minus}
use Rattle.fb_obstacles.specs.Watched.{Watched, has_bound}
use Rattle.fb_trees.specs.TreeSteps.{step}

-- the place of the node's step; the number of all steps if it has none
abbrev pub place_on : List CycleStep → ℕ → ℕ
place_on [] name = 0
place_on (s ∷ ss) name = if s.node == name then 0 else 1 + place_on ss name

-- the steps from the node's on, and then those before it
abbrev pub round_on : List CycleStep → ℕ → List CycleStep
round_on cycle name = drop (place_on cycle name) cycle ++ take (place_on cycle name) cycle

-- from the node back over these steps, the last one first: each link leads to the node of its step
abbrev pub turned_from : ℕ → List CycleStep → List CycleStep
turned_from node [] = []
turned_from node (s ∷ ss) = step node s.link ∷ turned_from s.node ss

-- the same round from the same node in the other direction
abbrev pub turned_on : List CycleStep → List CycleStep
turned_on [] = []
turned_on (s ∷ ss) = turned_from s.node (reverse (s ∷ ss))

-- the round by the way on which the node is an even number of links from the first one
abbrev pub even_on : List CycleStep → ℕ → List CycleStep
even_on round name = if place_on round name % 2 == 0 then round else turned_on round

-- the steps up to the node's, and those after it
abbrev pub way_on : List CycleStep → ℕ → List CycleStep
way_on round name = take (place_on round name + 1) round

abbrev pub rest_on : List CycleStep → ℕ → List CycleStep
rest_on round name = drop (place_on round name + 1) round

-- the nodes of the steps two by two, each two matched by the link between them
abbrev pub couples_on : List CycleStep → List Match
couples_on (s ∷ t ∷ ss) = record { link = s.link; first = s.node; second = Some t.node } ∷ couples_on ss
couples_on ss = []

-- the links that lead on from each two of them
abbrev pub between_on : List CycleStep → List ℕ
between_on (s ∷ t ∷ ss) = t.link ∷ between_on ss
between_on ss = []

-- the link of the node's step
abbrev pub link_on : List CycleStep → ℕ → ℕ
link_on [] name = 0
link_on (s ∷ ss) name = if s.node == name then s.link else link_on ss name

-- the links of the round that are neither on the way to the node nor match two nodes
abbrev pub links_left : List CycleStep → ℕ → List ℕ
links_left round name = link_on round name ∷ between_on (rest_on round name)

-- A blossom that may be split, and a tight link that leads to it from another node.
pub record MayEnter (w : PartValue) (name other link : ℕ) : Type 0 where
  pub nest : IsNest (problem_in w) w.nodes
  pub agreed : AreAgreed w.nodes w.store
  pub may_split : MaySplit w.nodes name
  pub live : is_live w.links link ≡ true
  pub tight : AreMatchedLinks (problem_in w) w.nodes (link_by w.links link ∷ [])
  pub apart : other ≢ name
  pub connects : Connects w.nodes (link_by w.links link) other name

-- The link leads from the other node to this child of the blossom, as is seen once the blossom is split.
pub record EndsAtChild (w : PartValue) (name other link child : ℕ) : Type 0 where
  pub on_cycle : is_on (cycle_at w.store name) child ≡ true
  pub connects : Connects (split_nodes name w.nodes) (link_by w.links link) other child

-- Each minus node among those of the steps is watched, with a bound of at most twice the value of its top layer. Other nodes are
-- watched as before, and so are the edges.
pub record EntersWay (nodes : List Node) (role : ℕ → Role) (steps : List CycleStep) (old new : Watched) : Type 0 where
  pub same : new ≡ record old { nodes = new.nodes }
  pub entered : (name : ℕ) → is_in (map (λ s. s.node) steps) name ≡ true → role name ≡ Minus
      → has_bound new.nodes name (2 * (node_named nodes name).top.value) ≡ true
  pub kept : (other most : ℕ) → has_bound old.nodes other most ≡ true → has_bound new.nodes other most ≡ true
