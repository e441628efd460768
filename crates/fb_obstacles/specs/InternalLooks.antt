-- How the edges and minus nodes are looked at.
use Rattle.std.specs.Prelude.{ℕ, ◌≡◌, ◌+◌, ◌-◌, ◌*◌, ◌/◌, ◌^◌, ◌<◌, ◌≤◌, ◌==◌, Bool, true, false, min, nat_lt, nat_le, List, length, filter, map, All, Option, Some, None, option_map, if◌then◌else◌}
use Rattle.fb_graph.specs.Parity.{is_in}
use Rattle.fb_graph.specs.Problem.{Problem, edge_at}
use Rattle.fb_graph.specs.Limits.{IsWithinLimits}
use Rattle.fb_graph.specs.Covers.{AreRoles}
use Rattle.fb_graph.specs.Dual.{IsDual, Node, cover_of, is_empty, layers_at}
use Rattle.fb_graph.specs.Steps.{Roles}
use Rattle.fb_graph.specs.declared.parts.Edge.{Edge}
use Rattle.fb_regions.specs.Holders.{IsHolder, potential_by}
use Rattle.fb_regions.specs.Moves.{node_named}
use Rattle.fb_regions.specs.declared.regions.Holder.{Holder}
use Rattle.fb_regions.specs.declared.roles.Role.{Role}
use Rattle.fb_regions.specs.declared.roles.Role.TheVariants as role
use Rattle.fb_obstacles.specs.Obstacles.{BearsStep, HavePlusParity, IsAtMinus, Obstructs, residue_at, roles_by, slack_at}
use Rattle.fb_obstacles.specs.InnerEdges.{LeavesInner}
use Rattle.fb_obstacles.specs.Watched.{AreBounded, Watched}
use Rattle.fb_obstacles.specs.declared.obstacle.Obstacle.{Obstacle}
use Rattle.fb_obstacles.specs.declared.obstacle.Obstacle.TheVariants as obstacle
use Rattle.fb_obstacles.specs.declared.looking.Look.{Look}
use Rattle.fb_obstacles.specs.declared.looking.Look.TheVariants.{Clear, Within, Blocked}
use Rattle.fb_obstacles.specs.declared.ends.Cover.{Cover}
use Rattle.fb_obstacles.specs.declared.ends.Cover.TheVariants.{Plus, Minus, Out, Bare, Virtual}
use Rattle.fb_obstacles.specs.declared.ends.End.{End}
use Rattle.fb_obstacles.specs.declared.ends.HolderPair.{HolderPair}

abbrev pub cover_in_role : Role → ℕ → Cover
cover_in_role role.Plus name = Plus name
cover_in_role role.Minus name = Minus
cover_in_role role.Out name = Out

-- what is over a vertex, by the outer node that holds it and whether it is real
abbrev pub cover_by : (ℕ → Role) → Bool → Option ℕ → Cover
cover_by role_of real (Some name) = cover_in_role (role_of name) name
cover_by role_of true None = Bare
cover_by role_of false None = Virtual

-- the outer node over a vertex with this holder
abbrev pub node_by : Option Holder → Option ℕ
node_by holder = option_map (λ h. h.node) holder

-- the vertex with its holder
pub record IsEnd (nodes : List Node) (v : ℕ) (end : End) : Type 0 where
  pub vertex : end.vertex ≡ v
  pub holder : IsHolder nodes v end.holder

-- the ends are those of the edge, each with its holder
pub record AreEnds (nodes : List Node) (e : Edge) (ends : HolderPair) : Type 0 where
  pub first : IsHolder nodes e.first ends.first
  pub second : IsHolder nodes e.second ends.second

-- the weight of an edge with these ends less the potentials of both
abbrev pub residue_by : HolderPair → ℕ → ℕ
residue_by ends weight = weight - (potential_by ends.first + potential_by ends.second)

abbrev pub cover_at : Problem → (ℕ → Role) → List Node → ℕ → Cover
cover_at p role_of nodes v = cover_by role_of (p.is_real v) (cover_of nodes v)

-- the end beside a plus node; none if no end is under a plus node, or one plus node is over both
abbrev pub far_end : Cover → Cover → Option Cover
far_end (Plus m) (Plus n) = if m == n then None else Some (Plus n)
far_end (Plus m) far = Some far
far_end far (Plus n) = Some far
far_end first second = None

-- what a plus node grows towards along the edge with these ends
abbrev pub far_by : Problem → (ℕ → Role) → Edge → HolderPair → Option Cover
far_by p role_of e ends =
    far_end (cover_by role_of (p.is_real e.first) (node_by ends.first))
    (cover_by role_of (p.is_real e.second) (node_by ends.second))

abbrev pub bounded_look : ℕ → Obstacle → Look
bounded_look bound o = if bound == 0 then Blocked o else Within bound

-- how far a plus node may grow towards this end of the edge
abbrev pub look_at : Cover → ℕ → ℕ → Look
look_at (Plus n) residue k = bounded_look (residue / 2) (obstacle.PlusPair k)
look_at Minus residue k = Clear
look_at Out residue k = bounded_look residue (obstacle.Meet k)
look_at Bare residue k = bounded_look residue (obstacle.Absorb k)
look_at Virtual residue k = bounded_look residue (obstacle.Boundary k)

abbrev pub look_if : Option Cover → ℕ → ℕ → Look
look_if None residue k = Clear
look_if (Some far) residue k = look_at far residue k

abbrev pub edge_look : Problem → (ℕ → Role) → List Node → ℕ → Look
edge_look p role_of nodes k =
    look_if
    (far_end (cover_at p role_of nodes (edge_at p.edges k).first) (cover_at p role_of nodes (edge_at p.edges k).second))
    (residue_at p nodes k) k

-- what an empty top layer of a minus node is
abbrev pub empty_layer : List Node → ℕ → Obstacle
empty_layer nodes name =
    if nat_lt 1 (length (layers_at nodes name)) then obstacle.LayerEmpty name
    else if is_empty (node_named nodes name).children then obstacle.ZeroMinus name else obstacle.BlossomEmpty name

-- how far the minus node of this name may shrink
abbrev pub node_look : List Node → ℕ → Look
node_look nodes name =
    if (node_named nodes name).top.value == 0 then Blocked (empty_layer nodes name)
    else Within (node_named nodes name).top.value

-- both looks in one
abbrev pub both_looks : Look → Look → Look
both_looks (Blocked o) b = Blocked o
both_looks a (Blocked o) = Blocked o
both_looks Clear b = b
both_looks a Clear = a
both_looks (Within i) (Within j) = Within (min i j)

-- the look names an obstacle at a minus node
abbrev pub IsMinusLook : Look → Type 0
IsMinusLook Clear = ⊥
IsMinusLook (Within bound) = ⊥
IsMinusLook (Blocked o) = IsAtMinus o

-- an edge with this slack bears each step that the look allows
abbrev pub fits_within : Look → ℕ → Bool
fits_within (Within bound) slack = nat_le bound (slack / 2)
fits_within Clear slack = false
fits_within (Blocked o) slack = false

-- twice the length of a step that an edge bears, from a look at it
abbrev pub bound_by : Look → ℕ
bound_by Clear = 2 ^ 64 - 1
bound_by (Within length) = 2 * length
bound_by (Blocked o) = 0

-- the state that edges are looked at in
pub record IsSeen (p : Problem) (role_of : ℕ → Role) (nodes : List Node) (ks : List ℕ) : Type 0 where
  pub dual : IsDual p nodes
  pub roles : AreRoles (roles_by role_of) nodes
  pub parity : HavePlusParity (roles_by role_of) nodes
  pub limits : IsWithinLimits p
  pub within : All (λ k. k < length p.edges) ks

-- the look says which lengths are allowed, or names an obstacle that is there
abbrev pub Limits : (ℕ → Type 0) → (Obstacle → Type 0) → Look → Type 0
Limits Allowed Blocks Clear = (k : ℕ) → Allowed k
Limits Allowed Blocks (Within bound) =
    (1 ≤ bound) × ((k : ℕ) → k ≤ bound → Allowed k) × ((k : ℕ) → Allowed k → k ≤ bound)
Limits Allowed Blocks (Blocked o) = Blocks o

-- how far the node of this name may shrink, if it is minus
abbrev pub watched_look : Roles → List Node → ℕ → Look
watched_look roles nodes name = if roles.is_minus name then node_look nodes name else Clear

-- how thick the top layers of the minus nodes are
abbrev pub minus_tops : Roles → List Node → List ℕ
minus_tops roles nodes = map (λ n. n.top.value) (filter (λ n. roles.is_minus n.name) nodes)

-- the length is at most each of these
abbrev pub IsAtMostEach : ℕ → List ℕ → Type 0
IsAtMostEach j tops = All (λ top. j ≤ top) tops

-- the look says which lengths top layers of these thicknesses and these edges allow, or names an obstacle that is there
abbrev pub LimitsBoth : Problem → Roles → List Node → List ℕ → List ℕ → Look → Type 0
LimitsBoth p roles nodes tops ks look =
    Limits
    (λ j. IsAtMostEach j tops × All (λ k. BearsStep roles nodes j (edge_at p.edges k)) ks)
    (Obstructs p roles nodes) look

-- what a scan of the watched edges tells, with top layers of these thicknesses beside them, and what it leaves of the watch
pub record HasScanned (p : Problem) (role_of : ℕ → Role) (nodes : List Node) (tops : List ℕ) (old new : Watched) (look : Look)
    : Type 0 where
  pub limits : LimitsBoth p (roles_by role_of) nodes tops old.edges look
  pub watched : LeavesInner p nodes old new
  pub bounded : AreBounded (slack_at p (roles_by role_of) nodes) new

-- the look says which lengths top layers of these thicknesses allow, or names an obstacle that is there
abbrev pub LimitsMinus : Problem → (ℕ → Role) → List Node → List ℕ → Look → Type 0
LimitsMinus p role_of nodes tops look = Limits (λ j. IsAtMostEach j tops) (Obstructs p (roles_by role_of) nodes) look

-- what a scan of the watched edges tells after a look at top layers, however thick these are
abbrev pub HasScannedAfter : Problem → (ℕ → Role) → List Node → Look → Watched → Watched → Look → Type 0
HasScannedAfter p role_of nodes before old new look =
    (tops : List ℕ) → LimitsMinus p role_of nodes tops before → HasScanned p role_of nodes tops old new look

-- the edges in a list bear steps of this length, but for those in another list
abbrev pub BearBeside : Problem → Roles → List Node → (left ks : List ℕ) → ℕ → Type 0
BearBeside p roles nodes left ks j =
    (k : ℕ) → is_in ks k ≡ true → is_in left k ≡ false → BearsStep roles nodes j (edge_at p.edges k)
