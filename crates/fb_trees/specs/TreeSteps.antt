-- Paths and cycles of a tree as steps: a node with the link that leads on from it.
use Rattle.std.specs.Prelude.{ℕ, ◌≡◌, ◌==◌, List, [], ◌∷◌, ◌++◌, map, if◌then◌else◌}
use Rattle.fb_links.specs.declared.cycle.CycleStep.{CycleStep}
use Rattle.fb_laws.specs.Trees.{EntryOf, path_to}
use Rattle.fb_laws.specs.TreeCycles.{ArePaths, cycle_links, cycle_nodes, last_plus, links_back, nodes_back}
use Rattle.fb_trees.specs.Branches.{Grown}
use Rattle.fb_trees.specs.Rooted.{IsPlus, IsRooted}

abbrev pub step : ℕ → ℕ → CycleStep
step node link = record { node = node; link = link }

-- Up branches that follow one another, from the plus node of the last one: each node with the link to its parent.
abbrev pub steps_up : List (EntryOf ℕ) → List CycleStep
steps_up [] = []
steps_up (e ∷ es) = steps_up es ++ step e.plus e.matched ∷ step e.minus e.tree ∷ []

-- From a node of the tree up to the root, which isn't listed: a minus node first leads to its parent.
abbrev pub way_up : List (EntryOf ℕ) → List (EntryOf ℕ) → ℕ → List CycleStep
way_up tree [] name = steps_up (path_to tree name)
way_up tree (e ∷ es) name =
    if e.minus == name then step name e.tree ∷ steps_up (path_to tree e.parent) else way_up tree es name

abbrev pub path_up : Grown → ℕ → List CycleStep
path_up t name = way_up t.branches t.branches name

-- The cycle that a link between two plus nodes closes, from its base on, which is the node where the paths to the two
-- part. Each step's link leads to the next step's node, that of the last one back to the base.
pub record IsCycle (t : Grown) (a b closing : ℕ) (cycle : List CycleStep) : Type 0 where
  pub shared : List (EntryOf ℕ)
  pub up : List (EntryOf ℕ)
  pub down : List (EntryOf ℕ)
  pub paths : ArePaths t.branches a b shared up down
  pub nodes : map (λ s. s.node) cycle ≡ last_plus t.root shared ∷ cycle_nodes up down
  pub links : map (λ s. s.link) cycle ≡ cycle_links up closing down

-- From a plus node the way up is the path to it, gone back.
abbrev pub UpFromPlus : Type 0
UpFromPlus = (t : Grown) (name : ℕ) → IsRooted t.root t.branches → IsPlus t name
    → path_up t name ≡ steps_up (path_to t.branches name)

-- Steps up branches have the nodes and the links of these branches.
abbrev pub StepsListed : Type 0
StepsListed = (path : List (EntryOf ℕ))
    → (map (λ s. s.node) (steps_up path) ≡ nodes_back path) × (map (λ s. s.link) (steps_up path) ≡ links_back path)
