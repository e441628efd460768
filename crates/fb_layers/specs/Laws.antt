-- What follows from the definitions of layers and of plans by layers.
use Rattle.std.specs.Prelude.{ℕ, ◌≡◌, ◌+◌, ◌<◌, ◌≤◌, true, List, length, Option, Some}
use Rattle.fb_graph.specs.Limits.{DecodingGraph}
use Rattle.fb_graph.specs.Problem.{edge_at}
use Rattle.fb_plan.specs.Plans.{PlanTree, most_units}
use Rattle.fb_layers.specs.Layers.{is_inner, IsLayer, AreLayers, layer_at}
use Rattle.fb_layers.specs.PlanByLayers.{AreTooFew, IsPlanByLayers}

-- A vertex has one layer.
abbrev pub OneLayer : Type 0
OneLayer = (g : DecodingGraph) (v m n : ℕ) → IsLayer g v m → IsLayer g v n → m ≡ n

-- A graph has one list of layers.
abbrev pub OneLayering : Type 0
OneLayering = (g : DecodingGraph) (layers others : List (Option ℕ)) → AreLayers g layers → AreLayers g others → layers ≡ others

-- An edge with two real ends joins layers at most one apart.
abbrev pub NearLayers : Type 0
NearLayers = (g : DecodingGraph) (layers : List (Option ℕ)) (k m n : ℕ) → AreLayers g layers → k < length g.edges
    → is_inner g (edge_at g.edges k) ≡ true → layer_at layers (edge_at g.edges k).first ≡ Some m
    → layer_at layers (edge_at g.edges k).second ≡ Some n → (m ≤ n + 1) × (n ≤ m + 1)

-- A graph has at most one plan by layers with so many units.
abbrev pub OnePlan : Type 0
OnePlan = (g : DecodingGraph) (units : ℕ) (t other : PlanTree) → 1 ≤ units → units ≤ most_units → IsPlanByLayers g units t
    → IsPlanByLayers g units other → t ≡ other

-- So there is a plan by layers, or they are too few, and never both.
abbrev pub PlannedOrTooFew : Type 0
PlannedOrTooFew = (g : DecodingGraph) (units h : ℕ) (t : PlanTree) → IsPlanByLayers g units t → ¬ AreTooFew g units h
