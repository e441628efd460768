-- What a dual state keeps beside its nodes: by which step each covered vertex came, and which node is round which.
use Rattle.std.specs.Prelude.{ℕ, ◌≡◌, ◌+◌, ◌<◌, ◌==◌, ◌&&◌, Bool, true, List, [], ◌∷◌, length, All, Option, Some, None, IsSome}
use Rattle.std.specs.List.{list_any}
use Rattle.fb_graph.specs.Parity.{is_in}
use Rattle.fb_graph.specs.Problem.{Problem, edge_at}
use Rattle.fb_graph.specs.Certificate.{total_value}
use Rattle.fb_graph.specs.Dual.{Node, all_cuts, cover_of, height_of, is_empty, is_outer, layers_of, leaves, top_at}
use Rattle.fb_graph.specs.Nests.{IsNest}
use Rattle.fb_graph.specs.SourceWalks.{HaveWalks}
use Rattle.fb_links.specs.declared.walk.Step.{Step}
use Rattle.fb_regions.specs.declared.marks.Hop.{Hop}
use Rattle.fb_regions.specs.declared.marks.Mark.{Mark}
use Rattle.fb_regions.specs.declared.region.Region.{Region}
use Rattle.fb_regions.specs.InternalListings.{AreListed, BeginAlike}
use Rattle.fb_regions.specs.InternalNodes.{children_from, mark_of, nodes_of, node_of, radii_from}
use Rattle.fb_regions.specs.Walks.{IsStep}

-- the step begins in the set
abbrev pub BeginsIn : List ℕ → Option Hop → Type 0
BeginsIn set None = Unit {0}
BeginsIn set (Some h) = is_in set h.from ≡ true

-- the mark of a vertex of a set: its source is in the set, and so is the vertex from which it came
pub record IsMarkIn (set : List ℕ) (m : Mark) : Type 0 where
  pub rank : m.rank < length set
  pub source : is_in set m.source ≡ true
  pub step : BeginsIn set m.by

abbrev pub HasMarks : List (Option Mark) → List ℕ → Type 0
HasMarks marks set = (v : ℕ) → is_in set v ≡ true → (m : Mark) × (mark_of marks v ≡ Some m) × IsMarkIn set m

-- the step comes from a vertex with the same source that was absorbed before, whose distance is less by the weight
abbrev pub IsAfter : Mark → ℕ → Option Mark → Type 0
IsAfter m weight None = ⊥
IsAfter m weight (Some b) =
    (b.source ≡ m.source) × (b.leaf ≡ m.leaf) × (b.rank < m.rank) × (m.distance ≡ b.distance + weight)

-- the step to the vertex
abbrev pub step_by : Problem → ℕ → Hop → Step
step_by p v h = record { from = h.from; to = v; edge = h.edge; weight = (edge_at p.edges h.edge).weight }

-- a vertex that came by no step is a defect, its own source
abbrev pub CameBy : Problem → List ℕ → List (Option Mark) → ℕ → Mark → Option Hop → Type 0
CameBy p defects marks v m None = (is_in defects v ≡ true) × (m.source ≡ v) × (m.distance ≡ 0)
CameBy p defects marks v m (Some h) = IsStep p (step_by p v h) × IsAfter m (edge_at p.edges h.edge).weight (mark_of marks h.from)

-- the node of this name joins no others
abbrev pub is_childless : List Region → ℕ → Bool
is_childless regions name = list_any (λ r. (r.name == name) && is_empty r.children.items) regions

-- what the mark of a vertex says
pub record IsMarked (p : Problem) (nodes : List Node) (regions : List Region) (marks : List (Option Mark)) (v : ℕ) (m : Mark) : Type 0 where
  pub covered : IsSome (cover_of nodes v)
  pub leaf : is_in (top_at nodes m.leaf) m.source ≡ true
  pub childless : is_childless regions m.leaf ≡ true
  pub defect : is_in (leaves nodes) m.source ≡ true
  pub balance : m.distance + height_of (all_cuts nodes) v ≡ radii_from regions m.leaf
  pub came : CameBy p (leaves nodes) marks v m m.by

-- the node that joins this one comes later; if there is none, it is outer
abbrev pub HasParent : List Node → List Region → ℕ → Option ℕ → Type 0
HasParent nodes later name None = is_outer nodes name ≡ true
HasParent nodes later name (Some q) = is_in (children_from later q) name ≡ true

abbrev pub HaveParents : List Node → List Region → Type 0
HaveParents nodes [] = Unit {0}
HaveParents nodes (r ∷ rs) = HasParent nodes rs r.name r.parent × HaveParents nodes rs

pub record IsKept (p : Problem) (regions : List Region) (marks : List (Option Mark)) : Type 0 where
  pub nest : IsNest p (nodes_of marks regions)
  pub walks : HaveWalks p (nodes_of marks regions)
  pub room : length marks ≡ p.vertices
  pub radii : All (λ r. r.radius ≡ total_value (layers_of (node_of marks r))) regions
  pub parents : HaveParents (nodes_of marks regions) regions
  pub sets : All (λ c. HasMarks marks c.vertices) (all_cuts (nodes_of marks regions))
  pub listed : AreListed marks regions
  pub begins : BeginAlike (nodes_of marks regions) regions
  pub marked : (v : ℕ) (m : Mark) → mark_of marks v ≡ Some m → IsMarked p (nodes_of marks regions) regions marks v m
