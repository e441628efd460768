-- A node that is a single defect, the edges at it, and how far it may grow.
use Rattle.std.specs.Prelude.{ℕ, ◌≡◌, ◌+◌, ◌%◌, ◌<◌, ◌≤◌, ◌==◌, nat_lt, min, not, Bool, true, false, List, length, Option, Some, None, if◌then◌else◌}
use Rattle.fb_graph.specs.declared.parts.Edge.{Edge}
use Rattle.fb_graph.specs.Components.{Leads}
use Rattle.fb_graph.specs.Problem.{Problem, edge_at, touches}
use Rattle.fb_graph.specs.Dual.{Node, all_cuts, cover_of, height_of, is_empty, layers_at}
use Rattle.fb_regions.specs.Moves.{node_named}
use Rattle.fb_obstacles.specs.Obstacles.{residue_of}
use Rattle.fb_obstacles.specs.declared.singles.Around.{Around}
use Rattle.fb_obstacles.specs.declared.singles.EdgeAtSingle.{EdgeAtSingle}

-- an edge from the vertex, with what it reaches and its residue
pub record IsReach (p : Problem) (nodes : List Node) (v : ℕ) (r : EdgeAtSingle) : Type 0 where
  pub within : r.edge < length p.edges
  pub leads : Leads (edge_at p.edges r.edge) v r.far
  pub potential : r.far_potential ≡ height_of (all_cuts nodes) r.far
  pub covered : r.other ≡ cover_of nodes r.far
  pub residue : r.length ≡ residue_of nodes (edge_at p.edges r.edge)

-- a node that joins no others and has one layer
abbrev pub is_single : List Node → ℕ → Bool
is_single nodes name = if not (is_empty (node_named nodes name).children) then false else (length (layers_at nodes name) == 1)

-- the edge has less residue than the best one so far
abbrev pub is_nearer : EdgeAtSingle → Option EdgeAtSingle → Bool
is_nearer reach None = true
is_nearer reach (Some best) = nat_lt reach.length best.length

-- the room beside a further edge, which is the best one
abbrev pub room_with : Option EdgeAtSingle → ℕ → ℕ
room_with None room = room
room_with (Some best) room = min room best.length

abbrev pub with_best : Around → EdgeAtSingle → Around
with_best around reach = record { best = Some reach; room = room_with around.best around.room }

-- Each edge at the vertex has at least the residue `room`, but for those that lead to `far`, which have at least `between`.
abbrev pub HasRoom : List Edge → List Node → ℕ → ℕ → ℕ → ℕ → Type 0
HasRoom edges nodes v far between room = (k : ℕ) → k < length edges → touches v (edge_at edges k) ≡ true
    → (if touches far (edge_at edges k) then between else room) ≤ residue_of nodes (edge_at edges k)

-- how much of the residue of an edge between two defects the other one takes: an even length within its room that leaves
-- the first one's part within its own room
pub record IsShare (residue room other_room share : ℕ) : Type 0 where
  pub even : share % 2 ≡ 0
  pub part : share ≤ residue
  pub within : share ≤ other_room
  pub left : residue ≤ room + share
