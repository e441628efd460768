-- Decoding graphs and shots: what every one of them keeps, and the problem of a whole graph.
use Rattle.std.specs.Prelude.{ℕ, ◌≡◌, ◌≢◌, ◌<◌, ◌≤◌, ◌%◌, ◌&&◌, Bool, true, false, not, nat_lt, if◌then◌else◌, List, [], length, map, All, filter, ℤ, pos, neg_ℤ, unsigned_abs}
use Rattle.std.specs.Int.{is_negative}
use Rattle.std.specs.List.{range_with_len}
use Rattle.std.specs.List.Sorted.{IsStrictlyIncreasing}
use Rattle.fb_graph.specs.Parity.{differ, is_odd_count, is_in}
use Rattle.fb_graph.specs.Problem.{Problem, with_defects, edge_at, touches}
use Rattle.fb_graph.specs.declared.parts.Edge.{Edge}

-- the most vertices and edges of a graph, and the greatest weight without its sign: 2^20, 2^22 and 2^30
abbrev pub most_vertices : ℕ
most_vertices = 1048576

abbrev pub most_edges : ℕ
most_edges = 4194304

abbrev pub most_weight : ℕ
most_weight = 1073741824

-- two different ends in range, and an even weight within its limit
pub record IsEdge (vertices : ℕ) (e : Edge) : Type 0 where
  pub first : e.first < vertices
  pub second : e.second < vertices
  pub loopless : e.first ≢ e.second
  pub even : e.weight % 2 ≡ 0
  pub light : e.weight ≤ most_weight

pub record IsWithinLimits (p : Problem) : Type 0 where
  pub vertices : p.vertices ≤ most_vertices
  pub edges : length p.edges ≤ most_edges
  pub each_edge : All (IsEdge p.vertices) p.edges
  pub real_below : (v : ℕ) → p.is_real v ≡ true → v < p.vertices

-- A decoding graph as contracts see it: edges by their places, each with its weight without a sign; the numbers of the
-- edges that weigh less than 0, strictly rising; virtual vertices, strictly rising.
pub record DecodingGraph : Type 0 where
  pub vertices : ℕ
  pub edges : List Edge
  pub negatives : List ℕ
  pub virtuals : List ℕ

-- the weight with its sign
abbrev pub signed : Bool → ℕ → ℤ
signed is_below_zero weight = if is_below_zero then neg_ℤ (pos weight) else pos weight

-- what edge k weighs, with its sign
abbrev pub signed_weight : DecodingGraph → ℕ → ℤ
signed_weight g k = signed (is_in g.negatives k) (edge_at g.edges k).weight

-- a real vertex is one in range that isn't virtual
abbrev pub is_real_in : DecodingGraph → ℕ → Bool
is_real_in g v = nat_lt v g.vertices && not (is_in g.virtuals v)

-- detector k's vertex at place k: the real vertices, rising
abbrev pub detectors_of : DecodingGraph → List ℕ
detectors_of g = filter (λ v. not (is_in g.virtuals v)) (range_with_len 0 g.vertices)

-- the real vertices at which an odd number of the listed edges end, rising
abbrev pub odd_ends : DecodingGraph → List ℕ → List ℕ
odd_ends g ks = filter (λ v. is_odd_count (λ k. touches v (edge_at g.edges k)) ks) (detectors_of g)

-- the changed edges that weigh less than 0 either in the graph or by the change, but not both
abbrev pub turned_edges : DecodingGraph → List (ℕ × ℤ) → List ℕ
turned_edges g changes =
    map (λ change. change.0) (filter (λ change. differ (is_negative change.1) (is_in g.negatives change.0)) changes)

-- the real vertices at which the changes turn the sign of an odd number of edges, rising
abbrev pub turned_by : DecodingGraph → List (ℕ × ℤ) → List ℕ
turned_by g changes = odd_ends g (turned_edges g changes)

-- What one run of an experiment reports: its defects, and the edges that weigh otherwise in this run than in the graph
-- (an erasure, a drifted rate), each as its number and its weight with its sign. `turned` follows from the changes: see
-- `turned_by`.
pub record ShotValue : Type 0 where
  pub defects : List ℕ
  pub changes : List (ℕ × ℤ)
  pub turned : List ℕ

-- the shot of these defects in which every edge weighs what it does in the graph
abbrev pub plain_shot : List ℕ → ShotValue
plain_shot defects = record { defects = defects; changes = []; turned = [] }

abbrev pub no_shot : ShotValue
no_shot = plain_shot []

-- the problem with the defects of this shot; what its edges weigh for the shot is said in ShotGraphs.antt
abbrev pub with_shot : Problem → ShotValue → Problem
with_shot p shot = with_defects p shot.defects

-- the whole graph as a problem, with the defects of this shot
abbrev pub problem_of : DecodingGraph → ShotValue → Problem
problem_of g shot = with_shot
    (record { vertices = g.vertices; edges = g.edges; is_real = is_real_in g; is_defect = λ v. false }) shot

-- the edge of this number is one of weight at least 1: a weight of 0 has no sign
pub record HasWeight (edges : List Edge) (k : ℕ) : Type 0 where
  pub within : k < length edges
  pub heavy : 1 ≤ (edge_at edges k).weight

-- what every graph keeps
pub record IsGraph (g : DecodingGraph) : Type 0 where
  pub vertices : g.vertices ≤ most_vertices
  pub edges : length g.edges ≤ most_edges
  pub each_edge : All (IsEdge g.vertices) g.edges
  pub negatives : All (HasWeight g.edges) g.negatives
  pub negatives_rising : IsStrictlyIncreasing g.negatives
  pub virtuals : All (λ v. v < g.vertices) g.virtuals
  pub rising : IsStrictlyIncreasing g.virtuals

-- the number of an edge, and an even weight that without its sign is within its limit
pub record IsChange (edge_count : ℕ) (change : ℕ × ℤ) : Type 0 where
  pub within : change.0 < edge_count
  pub even : unsigned_abs change.1 % 2 ≡ 0
  pub light : unsigned_abs change.1 ≤ most_weight

-- changed weights: each of an edge of its own, the edges strictly rising
pub record AreChanges (edge_count : ℕ) (changes : List (ℕ × ℤ)) : Type 0 where
  pub rising : IsStrictlyIncreasing (map (λ change. change.0) changes)
  pub each : All (IsChange edge_count) changes

-- the defects of a shot are real vertices of the problem, strictly rising
pub record IsShotIn (p : Problem) (shot : ShotValue) : Type 0 where
  pub rising : IsStrictlyIncreasing shot.defects
  pub real : All (λ v. p.is_real v ≡ true) shot.defects

-- A shot of a graph: its defects are real vertices, strictly rising; its changes are of the graph's edges; and it has
-- the vertices at which they turn an odd number of signs.
pub record IsShot (g : DecodingGraph) (shot : ShotValue) : Type 0 where
  pub rising : IsStrictlyIncreasing shot.defects
  pub real : All (λ v. is_real_in g v ≡ true) shot.defects
  pub changes : AreChanges (length g.edges) shot.changes
  pub turned : shot.turned ≡ turned_by g shot.changes
