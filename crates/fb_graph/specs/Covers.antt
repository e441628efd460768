-- What an edge gains and loses by a step, from the outer nodes over its two ends.
use Rattle.std.specs.Prelude.{ℕ, ◌≡◌, ◌+◌, ◌-◌, ◌*◌, ◌%◌, ◌≤◌, ◌<◌, ◌&&◌, Bool, true, false, List, map, All, count_by, Option, Some, None}
use Rattle.fb_graph.specs.Parity.{is_in}
use Rattle.fb_graph.specs.Problem.{Problem, crosses}
use Rattle.fb_graph.specs.Certificate.{AreDistinct, load_of}
use Rattle.fb_graph.specs.Dual.{Node, IsDual, all_cuts, leaves, cover_of, height_of, is_outer, AreUnderOne, AreOuterApart}
use Rattle.fb_graph.specs.declared.parts.Edge.{Edge}
use Rattle.fb_graph.specs.Counts.{as_count}
use Rattle.fb_graph.specs.Steps.{Roles, AreExclusive, AllowShrinking, gains, losses, stepped_nodes, MayStep}

-- the name, if there is one, passes the test
abbrev pub passes : (ℕ → Bool) → Option ℕ → Bool
passes test None = false
passes test (Some name) = test name

-- an outer node whose name passes the test holds the vertex
abbrev pub is_covered_by : (ℕ → Bool) → List Node → ℕ → Bool
is_covered_by test nodes v = passes test (cover_of nodes v)

-- only outer nodes' names pass the test
abbrev pub PassOuterOnly : (ℕ → Bool) → List Node → Type 0
PassOuterOnly test nodes = All (λ n. test n.name ≡ true → is_outer nodes n.name ≡ true) nodes

-- how many nodes whose names pass the test have a set that the edge crosses
abbrev pub crossings_of : (ℕ → Bool) → List Node → Edge → ℕ
crossings_of test nodes e = count_by (λ n. test n.name && crosses n.top.vertices e) nodes

-- An edge whose ends are not under one outer node crosses just the sets of the outer nodes over its ends.
abbrev pub CrossingsByCover : Type 0
CrossingsByCover = (test : ℕ → Bool) (nodes : List Node) (e : Edge) → AreOuterApart nodes → PassOuterOnly test nodes
    → ¬ AreUnderOne nodes e.first e.second
    → crossings_of test nodes e ≡ as_count (is_covered_by test nodes e.first) + as_count (is_covered_by test nodes e.second)

-- An edge within one outer node crosses no outer node's set.
abbrev pub NoCrossingsWithin : Type 0
NoCrossingsWithin = (test : ℕ → Bool) (nodes : List Node) (e : Edge) → AreOuterApart nodes → PassOuterOnly test nodes
    → AreDistinct (map (λ n. n.name) nodes) → AreUnderOne nodes e.first e.second → crossings_of test nodes e ≡ 0

-- the roles are those of outer nodes, and no node has both
pub record AreRoles (roles : Roles) (nodes : List Node) : Type 0 where
  pub exclusive : AreExclusive roles
  pub plus : PassOuterOnly roles.is_plus nodes
  pub minus : PassOuterOnly roles.is_minus nodes

-- A pair between a plus and a minus node gains as much as it loses, as a link of the tree does.
abbrev pub LevelBetween : Type 0
LevelBetween = (roles : Roles) (nodes : List Node) (e : Edge) → AreOuterApart nodes → AreRoles roles nodes
    → is_covered_by roles.is_plus nodes e.first ≡ true → is_covered_by roles.is_minus nodes e.second ≡ true
    → gains roles nodes e ≡ losses roles nodes e

-- So does a pair within one node, as a link inside a blossom does.
abbrev pub LevelWithin : Type 0
LevelWithin = (roles : Roles) (nodes : List Node) (e : Edge) → AreOuterApart nodes
    → AreDistinct (map (λ n. n.name) nodes) → AreRoles roles nodes → AreUnderOne nodes e.first e.second
    → gains roles nodes e ≡ losses roles nodes e

-- And a pair whose ends are under no node of the tree, as a matched link outside it is.
abbrev pub LevelOutside : Type 0
LevelOutside = (roles : Roles) (nodes : List Node) (e : Edge) → AreOuterApart nodes
    → AreDistinct (map (λ n. n.name) nodes) → AreRoles roles nodes
    → is_covered_by roles.is_plus nodes e.first ≡ false → is_covered_by roles.is_plus nodes e.second ≡ false
    → is_covered_by roles.is_minus nodes e.first ≡ false → is_covered_by roles.is_minus nodes e.second ≡ false
    → gains roles nodes e ≡ losses roles nodes e

-- all defects under the nodes that pass the test have potentials of this parity
abbrev pub HaveParity : (ℕ → Bool) → List Node → ℕ → Type 0
HaveParity test nodes r = (d name : ℕ) → is_in (leaves nodes) d ≡ true → cover_of nodes d ≡ Some name → test name ≡ true
    → height_of (all_cuts nodes) d % 2 ≡ r

-- If weights are even, the slack of an edge between two plus nodes is even, so that both may grow by half of it.
abbrev pub EvenResidue : Type 0
EvenResidue = (p : Problem) (roles : Roles) (nodes : List Node) (r : ℕ) (e : Edge) → IsDual p nodes
    → HaveParity roles.is_plus nodes r → e.weight % 2 ≡ 0 → ¬ AreUnderOne nodes e.first e.second
    → is_covered_by roles.is_plus nodes e.first ≡ true → is_covered_by roles.is_plus nodes e.second ≡ true
    → (e.weight - load_of (all_cuts nodes) e) % 2 ≡ 0

-- the edge can bear more, if one of its ends is under a plus node and the other isn't under a minus node
pub record IsClear (roles : Roles) (nodes : List Node) (e : Edge) : Type 0 where
  pub first : is_covered_by roles.is_plus nodes e.first ≡ true → is_covered_by roles.is_minus nodes e.second ≡ false
      → load_of (all_cuts nodes) e < e.weight
  pub second : is_covered_by roles.is_plus nodes e.second ≡ true → is_covered_by roles.is_minus nodes e.first ≡ false
      → load_of (all_cuts nodes) e < e.weight

-- the tree has no obstacle: neither a tight edge nor an empty layer
pub record HasNoObstacle (p : Problem) (roles : Roles) (nodes : List Node) : Type 0 where
  pub edges : All (λ e. ¬ AreUnderOne nodes e.first e.second → IsClear roles nodes e) p.edges
  pub layers : All (λ n. roles.is_minus n.name ≡ true → 1 ≤ n.top.value) nodes

-- Then a step of length 1 is allowed.
abbrev pub FreeStep : Type 0
FreeStep = (p : Problem) (roles : Roles) (nodes : List Node) (r : ℕ) → IsDual p nodes → AreRoles roles nodes
    → HaveParity roles.is_plus nodes r → All (λ e. e.weight % 2 ≡ 0) p.edges → HasNoObstacle p roles nodes
    → MayStep p roles nodes 1

-- A step leaves the outer node over a vertex, and the defects.
abbrev pub CoverStepped : Type 0
CoverStepped = (roles : Roles) (nodes : List Node) (k v : ℕ) → cover_of (stepped_nodes roles k nodes) v ≡ cover_of nodes v

abbrev pub LeavesStepped : Type 0
LeavesStepped = (roles : Roles) (nodes : List Node) (k : ℕ) → leaves (stepped_nodes roles k nodes) ≡ leaves nodes

-- It raises all potentials under plus nodes by its length, and lowers those under minus nodes by it.
abbrev pub HeightStepped : Type 0
HeightStepped = (roles : Roles) (nodes : List Node) (k v : ℕ) → AreOuterApart nodes → AreRoles roles nodes
    → AllowShrinking roles nodes k
    → height_of (all_cuts (stepped_nodes roles k nodes)) v + k * as_count (is_covered_by roles.is_minus nodes v)
    ≡ height_of (all_cuts nodes) v + k * as_count (is_covered_by roles.is_plus nodes v)
