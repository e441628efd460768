-- An edge over which an unmatched node that is a single defect can be matched at once: to the boundary, or with another
-- such node.
use Rattle.std.specs.Prelude.{ℕ, ◌≡◌, ◌+◌, ◌%◌, ◌<◌, ◌&&◌, min, not, Bool, true, false, List, [], ◌∷◌, length, Option, Some, None, if◌then◌else◌}
use Rattle.fb_graph.specs.Parity.{is_in}
use Rattle.fb_graph.specs.Components.{Leads}
use Rattle.fb_graph.specs.Problem.{Problem, edge_at}
use Rattle.fb_graph.specs.Dual.{Node, cover_of, top_at}
use Rattle.fb_graph.specs.Steps.{Roles}
use Rattle.fb_laws.specs.Trees.{roles_of}
use Rattle.fb_obstacles.specs.Obstacles.{residue_of}
use Rattle.fb_obstacles.specs.declared.singles.Around.{Around}
use Rattle.fb_obstacles.specs.declared.singles.EdgeAtSingle.{EdgeAtSingle}
use Rattle.fb_obstacles.specs.InternalSingles.{HasRoom, is_nearer, is_single, with_best}
use Rattle.fb_search.specs.declared.near.Near.{Near}
use Rattle.fb_search.specs.declared.near.Near.TheVariants.{Boundary, Pair}
use Rattle.fb_search.specs.declared.near.NearPair.{NearPair}

-- the roles by which this node alone grows
abbrev pub alone : ℕ → Roles
alone name = roles_of {L = ℕ} name []

-- the unmatched outer node holds this vertex alone
pub record IsSingleAt (nodes : List Node) (unmatched : List ℕ) (v name : ℕ) : Type 0 where
  pub top : top_at nodes name ≡ v ∷ []
  pub covered : cover_of nodes v ≡ Some name
  pub listed : is_in unmatched name ≡ true

-- with what a defect can be matched at the vertex: with such a node, or with the boundary
abbrev pub IsTarget : Problem → List Node → List ℕ → ℕ → Option ℕ → Type 0
IsTarget p nodes unmatched v None = p.is_real v ≡ false
IsTarget p nodes unmatched v (Some name) = IsSingleAt nodes unmatched v name

-- whether a defect can be matched at a vertex that is under this outer node, or under none
abbrev pub is_target : Problem → List Node → List ℕ → ℕ → Option ℕ → Bool
is_target p nodes unmatched v None = not (p.is_real v)
is_target p nodes unmatched v (Some name) = if is_in unmatched name then is_single nodes name else false

-- what was found, with a further edge
abbrev pub with_reach : Problem → List Node → List ℕ → Around → EdgeAtSingle → Around
with_reach p nodes unmatched around reach =
    if is_nearer reach around.best && is_target p nodes unmatched reach.far reach.other then with_best around reach
    else record { best = around.best; room = min around.room reach.length }

-- the edge leads from a single defect to the boundary, and the defect may grow by all its residue
pub record IsNearBoundary (p : Problem) (nodes : List Node) (root edge growth : ℕ) : Type 0 where
  pub inner : ℕ
  pub outer : ℕ
  pub within : edge < length p.edges
  pub leads : Leads (edge_at p.edges edge) inner outer
  pub top : top_at nodes root ≡ inner ∷ []
  pub boundary : p.is_real outer ≡ false
  pub residue : growth ≡ residue_of nodes (edge_at p.edges edge)
  pub room : HasRoom p.edges nodes inner outer growth growth

-- The edge leads from a single defect to another one, and both may grow until it is tight, the other one by an even length.
pub record IsNearPair (p : Problem) (nodes : List Node) (unmatched : List ℕ) (root : ℕ) (pair : NearPair) : Type 0 where
  pub inner : ℕ
  pub outer : ℕ
  pub within : pair.edge < length p.edges
  pub leads : Leads (edge_at p.edges pair.edge) inner outer
  pub top : top_at nodes root ≡ inner ∷ []
  pub single : IsSingleAt nodes unmatched outer pair.other
  pub even : pair.other_length % 2 ≡ 0
  pub residue : pair.length + pair.other_length ≡ residue_of nodes (edge_at p.edges pair.edge)
  pub room : HasRoom p.edges nodes inner outer (pair.length + pair.other_length) pair.length
  pub other_room : HasRoom p.edges nodes outer inner (pair.length + pair.other_length) pair.other_length

-- the root can be matched in this way
abbrev pub IsNear : Problem → List Node → List ℕ → ℕ → Near → Type 0
IsNear p nodes unmatched root (Boundary edge growth) = IsNearBoundary p nodes root edge growth
IsNear p nodes unmatched root (Pair pair) = IsNearPair p nodes unmatched root pair
