-- The plan of a graph by its layers, cut as a plan of a lattice by time cuts rounds: a round is a layer, of all
-- components at once.
use Rattle.std.specs.Prelude.{ℕ, ◌≡◌, ◌-◌, ◌*◌, ◌<◌, ◌≤◌, ◌⊎◌, List, length, map, Option, Some, None}
use Rattle.fb_graph.specs.Limits.{DecodingGraph}
use Rattle.fb_plan.specs.Plans.{PlanTree, owner_of}
use Rattle.fb_gen.specs.TimePlan.{IsRoundOf, time_fusions}
use Rattle.fb_plan.specs.declared.faults.PlanFault.{PlanFault}
use Rattle.fb_plan.specs.declared.faults.PlanFault.TheVariants.{TooFewLayers, NoMemory}
use Rattle.fb_layers.specs.Layers.{AreLayers, height_of, layer_at}

-- the owner of a vertex: the node that has its layer as one of its rounds, of so many; none for a virtual vertex
abbrev pub IsLayerOwner : ℕ → ℕ → Option ℕ → Option ℕ → Type 0
IsLayerOwner height units None owner = owner ≡ None
IsLayerOwner height units (Some layer) owner = (n : ℕ) × (owner ≡ Some n) × IsRoundOf height units layer n

-- The plan by layers: its units and fusions are those of a plan by time, and a vertex belongs to the node of its layer.
pub record IsPlanByLayers (g : DecodingGraph) (many : ℕ) (t : PlanTree) : Type 0 where
  pub layers : List (Option ℕ)
  pub layering : AreLayers g layers
  pub units : t.units ≡ many
  pub joins : t.joins ≡ map (λ f. (f.left, f.right)) (time_fusions many)
  pub count : length t.owners ≡ g.vertices
  pub owners : (v : ℕ) → IsLayerOwner (height_of layers) many (layer_at layers v) (owner_of t v)
  -- one unit needs no layer; more need one each and one for the seam between each two
  pub enough : 1 < many → 2 * many - 1 ≤ height_of layers

-- more than one unit, and too few layers for so many: there are `h`
pub record AreTooFew (g : DecodingGraph) (units h : ℕ) : Type 0 where
  pub layers : List (Option ℕ)
  pub layering : AreLayers g layers
  pub height : h ≡ height_of layers
  pub more : 1 < units
  pub few : h < 2 * units - 1

-- why there is no plan by layers: they are too few, or memory ran out
abbrev pub IsFault : DecodingGraph → ℕ → PlanFault → Type 0
IsFault g units fault = ((h : ℕ) × (fault ≡ TooFewLayers h) × AreTooFew g units h) ⊎ (fault ≡ NoMemory)
