-- Links made, turned and joined, and what keeps them tight.
use Rattle.std.specs.Prelude.{ℕ, ◌≡◌, ◌+◌, ◌%◌, ◌<◌, List, [], ◌∷◌, ◌++◌, reverse, length, All}
use Rattle.fb_graph.specs.Problem.{Problem, edge_at, weight_of}
use Rattle.fb_graph.specs.Certificate.{load_of}
use Rattle.fb_graph.specs.Components.{Leads, IsWalkBy}
use Rattle.fb_graph.specs.Laws.{Link, IsTight}
use Rattle.fb_graph.specs.Dual.{Node, all_cuts, cover_of, height_of, AreOuterApart}
use Rattle.fb_graph.specs.declared.parts.Edge.{Edge}
use Rattle.fb_graph.specs.declared.parts.Cut.{Cut}
use Rattle.fb_graph.specs.Steps.{Roles, AllowShrinking, stepped_nodes}
use Rattle.fb_graph.specs.Covers.{AreRoles}

-- two vertices as the ends of an edge without weight
abbrev pub pair : ℕ → ℕ → Edge
pair u v = record { first = u; second = v; weight = 0 }

-- a walk from a defect to a vertex that weighs what the one's potential is above the other's
pub record IsSourceWalk (p : Problem) (cuts : List Cut) (walk : List ℕ) (d u : ℕ) : Type 0 where
  pub leads : IsWalkBy p walk d u
  pub balance : weight_of p walk + height_of cuts u ≡ height_of cuts d

-- a walk that weighs what the cuts between its ends are worth
pub record IsTightLink (p : Problem) (cuts : List Cut) (l : Link) : Type 0 where
  pub walk : IsWalkBy p l.walk l.from l.to
  pub tight : IsTight p cuts l

-- no cut of positive value holds both vertices
abbrev pub ArePartedBy : List Cut → ℕ → ℕ → Type 0
ArePartedBy cuts u v = load_of cuts (pair u v) ≡ height_of cuts u + height_of cuts v

-- A vertex without potential is parted from every other.
abbrev pub PartedFromLow : Type 0
PartedFromLow = (cuts : List Cut) (u v : ℕ) → height_of cuts v ≡ 0 → ArePartedBy cuts u v

-- If two nodes meet over a tight edge, the two source walks and the edge make a tight link.
abbrev pub MeetingTight : Type 0
MeetingTight = (p : Problem) (cuts : List Cut) (walk back : List ℕ) (k d u v c : ℕ) → IsSourceWalk p cuts walk d u
    → IsSourceWalk p cuts back c v → k < length p.edges → Leads (edge_at p.edges k) u v
    → load_of cuts (edge_at p.edges k) ≡ (edge_at p.edges k).weight → ArePartedBy cuts u v → ArePartedBy cuts d c
    → IsTightLink p cuts (record { from = d; to = c; walk = walk ++ k ∷ reverse back })

-- So do one source walk and an edge to a vertex without potential, as a boundary vertex is.
abbrev pub BoundaryTight : Type 0
BoundaryTight = (p : Problem) (cuts : List Cut) (walk : List ℕ) (k d u v : ℕ) → IsSourceWalk p cuts walk d u
    → k < length p.edges → Leads (edge_at p.edges k) u v
    → load_of cuts (edge_at p.edges k) ≡ (edge_at p.edges k).weight → height_of cuts v ≡ 0
    → IsTightLink p cuts (record { from = d; to = v; walk = walk ++ k ∷ [] })

-- A tight link gone the other way is tight.
abbrev pub TurnedTight : Type 0
TurnedTight = (p : Problem) (cuts : List Cut) (l : Link) → IsTightLink p cuts l
    → IsTightLink p cuts (record { from = l.to; to = l.from; walk = reverse l.walk })

-- Two tight links that end at a defect without potential are one tight link.
abbrev pub JoinedTight : Type 0
JoinedTight = (p : Problem) (cuts : List Cut) (l m : Link) → IsTightLink p cuts l → IsTightLink p cuts m
    → l.to ≡ m.from → height_of cuts l.to ≡ 0 → ArePartedBy cuts l.from m.to
    → IsTightLink p cuts (record { from = l.from; to = m.to; walk = l.walk ++ m.walk })

-- A layer without value may come or go, as when nodes are joined or split, a vertex absorbed or a layer taken off.
abbrev pub EmptyLayerLoads : Type 0
EmptyLayerLoads = (cuts more : List Cut) (c : Cut) (e : Edge) → c.value ≡ 0
    → load_of (cuts ++ c ∷ more) e ≡ load_of (cuts ++ more) e

abbrev pub EmptyLayerHeights : Type 0
EmptyLayerHeights = (cuts more : List Cut) (c : Cut) (v : ℕ) → c.value ≡ 0
    → height_of (cuts ++ c ∷ more) v ≡ height_of (cuts ++ more) v

-- A source walk keeps its balance by a step, since both its ends are under one node.
abbrev pub SourceStepped : Type 0
SourceStepped = (p : Problem) (roles : Roles) (nodes : List Node) (k : ℕ) (walk : List ℕ) (d u : ℕ)
    → AreOuterApart nodes
    → AreRoles roles nodes → AllowShrinking roles nodes k → cover_of nodes d ≡ cover_of nodes u
    → IsSourceWalk p (all_cuts nodes) walk d u → IsSourceWalk p (all_cuts (stepped_nodes roles k nodes)) walk d u

-- each edge of the problem has an even weight
abbrev pub AreEven : Problem → Type 0
AreEven p = All (λ e. e.weight % 2 ≡ 0) p.edges

-- Then the defects of a tight link have potentials of one parity, and a defect linked to the boundary an even one.
abbrev pub LinkParity : Type 0
LinkParity = (p : Problem) (cuts : List Cut) (l : Link) → AreEven p → IsTightLink p cuts l
    → ArePartedBy cuts l.from l.to
    → height_of cuts l.from % 2 ≡ height_of cuts l.to % 2

abbrev pub BoundaryParity : Type 0
BoundaryParity = (p : Problem) (cuts : List Cut) (l : Link) → AreEven p → IsTightLink p cuts l → height_of cuts l.to ≡ 0
    → height_of cuts l.from % 2 ≡ 0

-- So have the ends of a tight edge.
abbrev pub MeetingParity : Type 0
MeetingParity = (cuts : List Cut) (e : Edge) → e.weight % 2 ≡ 0 → load_of cuts e ≡ e.weight
    → load_of cuts e ≡ height_of cuts e.first + height_of cuts e.second
    → height_of cuts e.first % 2 ≡ height_of cuts e.second % 2

-- And the ends of a source walk.
abbrev pub SourceParity : Type 0
SourceParity = (p : Problem) (cuts : List Cut) (walk : List ℕ) (d u : ℕ) → AreEven p → IsSourceWalk p cuts walk d u
    → height_of cuts d % 2 ≡ height_of cuts u % 2
