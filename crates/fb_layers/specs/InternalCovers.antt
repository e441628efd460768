-- Ranges of a plan's nodes that hold the vertices that the nodes own.
use Rattle.std.specs.Prelude.{ℕ, ◌≡◌, ◌+◌, ◌<◌, ◌≤◌, ◌&&◌, nat_lt, List, [], ◌++◌, length, map, get_or, count_by, All, Option, Some, None, option_map}
use Rattle.fb_graph.specs.Counts.{as_count}
use Rattle.fb_plan.specs.Plans.{PlanTree}
use Rattle.fb_plan.specs.Vertices.{is_node}
use Rattle.fb_gen.specs.declared.levels.Fusion.{Fusion}
use Rattle.fb_layers.specs.Runs.{is_held}

-- a range of at least one vertex
abbrev pub IsRange : ℕ → ℕ × ℕ → Type 0
IsRange vertices range = (range.0 < range.1) × (range.1 ≤ vertices)

-- the ranges of each node hold the vertices below `count` that it owns, each once
pub record HoldOwned (vertices count : ℕ) (owners : List (Option ℕ)) (ranges : List (List (ℕ × ℕ))) : Type 0 where
  pub good : (n : ℕ) → All (IsRange vertices) (get_or ranges n [])
  pub each : (n v : ℕ) → n < length ranges
      → count_by (is_held v) (get_or ranges n []) ≡ as_count (nat_lt v count && is_node n (get_or owners v None))

-- the ranges of the units and of the fusions' seams, and the children of each fusion
pub record Ranges : Type 0 where
  pub units : List (List (ℕ × ℕ))
  pub seams : List (List (ℕ × ℕ))
  pub joins : List (ℕ × ℕ)

-- the ranges of each node: of the units, then of the fusions
abbrev pub all_ranges : Ranges → List (List (ℕ × ℕ))
all_ranges r = r.units ++ r.seams

-- the owners of vertices by their layers, the node of each layer being given
abbrev pub owners_by : List ℕ → List (Option ℕ) → List (Option ℕ)
owners_by nodes layers = map (option_map (λ layer. get_or nodes layer 0)) layers

-- the plan of these fusions whose nodes own layers
abbrev pub tree_by_nodes : List Fusion → List ℕ → List (Option ℕ) → PlanTree
tree_by_nodes fusions nodes layers = record {
  units = length fusions + 1;
  joins = map (λ f. (f.left, f.right)) fusions;
  owners = owners_by nodes layers;
}

-- each layer has a node, of so many
pub record AreNodes (count : ℕ) (nodes : List ℕ) (layers : List (Option ℕ)) : Type 0 where
  pub within : (v k : ℕ) → get_or layers v None ≡ Some k → k < length nodes
  pub below : (k : ℕ) → k < length nodes → get_or nodes k 0 < count
