-- What is in the way of an alternating tree (Wu and Zhong 2023).
use Rattle.std.specs.Prelude.{ℕ, ◌≡◌, ◌+◌, ◌-◌, ◌*◌, ◌^◌, ◌<◌, ◌≤◌, ◌⊎◌, ◌&&◌, ◌||◌, Bool, true, false, not, if◌then◌else◌, List, [], length, All, Some, None}
use Rattle.fb_graph.specs.Parity.{is_in}
use Rattle.fb_obstacles.specs.Watched.{Watched, has_bound}
use Rattle.fb_graph.specs.Problem.{Problem, edge_at}
use Rattle.fb_graph.specs.Certificate.{load_of}
use Rattle.fb_graph.specs.Components.{Leads}
use Rattle.fb_graph.specs.Dual.{Node, AreUnderOne, all_cuts, cover_of, height_of, is_live, is_outer}
use Rattle.fb_graph.specs.declared.parts.Edge.{Edge}
use Rattle.fb_graph.specs.Steps.{Roles, gains, losses}
use Rattle.fb_graph.specs.Covers.{HaveParity, is_covered_by}
use Rattle.fb_graph.specs.Moves.{MaySplit, MayUncover}
use Rattle.fb_laws.specs.Lengths.{IsGreatestStep}
use Rattle.fb_regions.specs.Paces.{grows, shrinks}
use Rattle.fb_regions.specs.declared.roles.Role.{Role}
use Rattle.fb_obstacles.specs.InnerEdges.{is_inner}
use Rattle.fb_obstacles.specs.declared.obstacle.Obstacle.{Obstacle}
use Rattle.fb_obstacles.specs.declared.obstacle.Obstacle.TheVariants.{Absorb, Boundary, Meet, PlusPair, LayerEmpty, BlossomEmpty, ZeroMinus, Free}

-- roles as two tests of names
abbrev pub roles_by : (ℕ → Role) → Roles
roles_by role = record { is_plus = λ name. grows (role name); is_minus = λ name. shrinks (role name) }

-- the weight of an edge less the potentials of both ends
abbrev pub residue_of : List Node → Edge → ℕ
residue_of nodes e = e.weight - (height_of (all_cuts nodes) e.first + height_of (all_cuts nodes) e.second)

-- the same of the edge of a number
abbrev pub residue_at : Problem → List Node → ℕ → ℕ
residue_at p nodes k = residue_of nodes (edge_at p.edges k)

-- Twice the length of a step that an edge bears, from the roles at its two ends: its residue between two plus nodes, of which a
-- step takes twice its length, and twice that where one end alone grows. Where none does, or one grows and the other shrinks,
-- or one node holds both, a step takes nothing.
abbrev pub slack_by : (inner plus_first plus_second minus_first minus_second : Bool) → (residue most : ℕ) → ℕ
slack_by inner plus_first plus_second minus_first minus_second residue most =
    if inner then most
    else if plus_first && plus_second then residue
    else if (plus_first && not minus_second) || (plus_second && not minus_first) then 2 * residue
    else most

-- more than any step takes
abbrev pub most_of : Edge → ℕ
most_of e = 2 ^ 64 + 2 * e.weight

-- twice the length of a step that the edge bears in these roles
abbrev pub slack_of : Roles → List Node → Edge → ℕ
slack_of roles nodes e =
    slack_by (is_inner nodes e) (is_covered_by roles.is_plus nodes e.first) (is_covered_by roles.is_plus nodes e.second)
    (is_covered_by roles.is_minus nodes e.first) (is_covered_by roles.is_minus nodes e.second) (residue_of nodes e) (most_of e)

-- the same of the edge of a number
abbrev pub slack_at : Problem → Roles → List Node → ℕ → ℕ
slack_at p roles nodes k = slack_of roles nodes (edge_at p.edges k)

-- the edge can bear a step of length j
abbrev pub BearsStep : Roles → List Node → ℕ → Edge → Type 0
BearsStep roles nodes j e =
    load_of (all_cuts nodes) e + j * gains roles nodes e ≤ e.weight + j * losses roles nodes e

-- all defects under plus nodes have potentials of one parity
abbrev pub HavePlusParity : Roles → List Node → Type 0
HavePlusParity roles nodes = (r : ℕ) × HaveParity roles.is_plus nodes r

-- only nodes are minus
abbrev pub AreMinusLive : Roles → List Node → Type 0
AreMinusLive roles nodes = (name : ℕ) → roles.is_minus name ≡ true → is_live nodes name ≡ true

-- each minus node is watched, with a bound of at most twice the value of its top layer
abbrev pub AreMinusBounded : Roles → List Node → Watched → Type 0
AreMinusBounded roles nodes watched =
    All (λ n. roles.is_minus n.name ≡ true → has_bound watched.nodes n.name (2 * n.top.value) ≡ true) nodes

-- the numbers are those of edges, among them each edge that has an end under a plus node and its other end not under
-- that node
pub record IsWatched (p : Problem) (roles : Roles) (nodes : List Node) (edges : List ℕ) : Type 0 where
  pub within : All (λ k. k < length p.edges) edges
  pub near : (k : ℕ) → k < length p.edges
      → (is_covered_by roles.is_plus nodes (edge_at p.edges k).first ≡ true)
      ⊎ (is_covered_by roles.is_plus nodes (edge_at p.edges k).second ≡ true)
      → ¬ AreUnderOne nodes (edge_at p.edges k).first (edge_at p.edges k).second → is_in edges k ≡ true

-- edge k is tight, and leads from u, which is under a plus node, to v
pub record IsTightFrom (p : Problem) (roles : Roles) (nodes : List Node) (k u v : ℕ) : Type 0 where
  pub within : k < length p.edges
  pub leads : Leads (edge_at p.edges k) u v
  pub tight : load_of (all_cuts nodes) (edge_at p.edges k) ≡ (edge_at p.edges k).weight
  pub plus : is_covered_by roles.is_plus nodes u ≡ true

-- edge k leads to an uncovered real vertex, which the plus node can absorb
pub record IsAbsorb (p : Problem) (roles : Roles) (nodes : List Node) (k u v : ℕ) : Type 0 where
  pub edge : IsTightFrom p roles nodes k u v
  pub uncovered : cover_of nodes v ≡ None
  pub real : p.is_real v ≡ true

-- edge k leads to the boundary
pub record IsBoundary (p : Problem) (roles : Roles) (nodes : List Node) (k u v : ℕ) : Type 0 where
  pub edge : IsTightFrom p roles nodes k u v
  pub real : p.is_real v ≡ false

-- edge k leads to a node that is neither plus nor minus
pub record IsMeet (p : Problem) (roles : Roles) (nodes : List Node) (k u v name : ℕ) : Type 0 where
  pub edge : IsTightFrom p roles nodes k u v
  pub covered : cover_of nodes v ≡ Some name
  pub not_plus : roles.is_plus name ≡ false
  pub not_minus : roles.is_minus name ≡ false

-- edge k leads to another plus node
pub record IsPlusPair (p : Problem) (roles : Roles) (nodes : List Node) (k u v : ℕ) : Type 0 where
  pub edge : IsTightFrom p roles nodes k u v
  pub other : is_covered_by roles.is_plus nodes v ≡ true
  pub apart : ¬ AreUnderOne nodes u v

-- the outer node of this name is a defect with one layer, of value 0
pub record IsZeroDefect (nodes : List Node) (name : ℕ) : Type 0 where
  pub live : is_live nodes name ≡ true
  pub outer : is_outer nodes name ≡ true
  pub bare : All (λ n. n.name ≡ name → (n.children ≡ []) × (n.below ≡ []) × (n.top.value ≡ 0)) nodes

-- the obstacle is in the way as named
abbrev pub Obstructs : Problem → Roles → List Node → Obstacle → Type 0
Obstructs p roles nodes (Absorb k) = (u v : ℕ) × IsAbsorb p roles nodes k u v
Obstructs p roles nodes (Boundary k) = (u v : ℕ) × IsBoundary p roles nodes k u v
Obstructs p roles nodes (Meet k) = (u v name : ℕ) × IsMeet p roles nodes k u v name
Obstructs p roles nodes (PlusPair k) = (u v : ℕ) × IsPlusPair p roles nodes k u v
Obstructs p roles nodes (LayerEmpty name) = (roles.is_minus name ≡ true) × MayUncover nodes name
Obstructs p roles nodes (BlossomEmpty name) = (roles.is_minus name ≡ true) × MaySplit nodes name
Obstructs p roles nodes (ZeroMinus name) = (roles.is_minus name ≡ true) × IsZeroDefect nodes name
Obstructs p roles nodes (Free k) = ⊥

-- the obstacle is at this edge
abbrev pub IsAtEdge : ℕ → Obstacle → Type 0
IsAtEdge e (Absorb k) = k ≡ e
IsAtEdge e (Boundary k) = k ≡ e
IsAtEdge e (Meet k) = k ≡ e
IsAtEdge e (PlusPair k) = k ≡ e
IsAtEdge e (LayerEmpty name) = ⊥
IsAtEdge e (BlossomEmpty name) = ⊥
IsAtEdge e (ZeroMinus name) = ⊥
IsAtEdge e (Free k) = ⊥

-- the obstacle is at a minus node
abbrev pub IsAtMinus : Obstacle → Type 0
IsAtMinus (Absorb k) = ⊥
IsAtMinus (Boundary k) = ⊥
IsAtMinus (Meet k) = ⊥
IsAtMinus (PlusPair k) = ⊥
IsAtMinus (LayerEmpty name) = Unit {0}
IsAtMinus (BlossomEmpty name) = Unit {0}
IsAtMinus (ZeroMinus name) = Unit {0}
IsAtMinus (Free k) = ⊥

-- each of these edges bears a step of length 1
abbrev pub BearOne : Problem → Roles → List Node → List ℕ → Type 0
BearOne p roles nodes ks = All (λ k. BearsStep roles nodes 1 (edge_at p.edges k)) ks

-- nothing is in the way, and the length is the greatest by which the tree may step
pub record IsFree (p : Problem) (roles : Roles) (nodes : List Node) (k : ℕ) : Type 0 where
  pub none : (o : Obstacle) → ¬ Obstructs p roles nodes o
  pub some : 1 ≤ k
  pub greatest : IsGreatestStep p roles nodes k

abbrev pub IsObstacle : Problem → Roles → List Node → Obstacle → Type 0
IsObstacle p roles nodes (Free k) = IsFree p roles nodes k
IsObstacle p roles nodes o = Obstructs p roles nodes o
