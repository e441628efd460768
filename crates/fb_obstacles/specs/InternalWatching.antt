-- Edges and nodes that come under watch. The bounds of other edges stay right, whatever limits they keep. Nothing is known of the slacks of
-- those that come, unless the roles are named in which their bounds are right.
use Rattle.std.specs.Prelude.{ℕ, ◌≡◌, ◌-◌, ◌<◌, ◌≤◌, true, false, not, List, get_or, length, map, if◌then◌else◌}
use Rattle.fb_graph.specs.Parity.{is_in}
use Rattle.fb_graph.specs.Problem.{Problem, edge_at, touches}
use Rattle.fb_graph.specs.Dual.{Node}
use Rattle.fb_graph.specs.Steps.{Roles}
use Rattle.fb_obstacles.specs.InnerEdges.{is_inner}
use Rattle.fb_obstacles.specs.Obstacles.{slack_at}
use Rattle.fb_obstacles.specs.InternalWatch.{StaysRightAbove}
use Rattle.fb_obstacles.specs.Watched.{AreBounded, NodeBound, Watched, has_bound}

-- The edges are watched, and those that were watched before.
pub record Enters (edges : List ℕ) (old new : Watched) : Type 0 where
  pub room : new.edge_count ≡ old.edge_count
  pub minus : new.nodes ≡ old.nodes
  pub kept : (k : ℕ) → is_in old.edges k ≡ true → is_in new.edges k ≡ true
  pub entered : (k : ℕ) → is_in edges k ≡ true → is_in new.edges k ≡ true
  pub only : (k : ℕ) → is_in new.edges k ≡ true → is_in edges k ≡ false → is_in old.edges k ≡ true
  pub bounds : (before after : ℕ → ℕ) → ((k : ℕ) → is_in edges k ≡ false → before k ≤ after k)
      → AreBounded before old → AreBounded after new

-- The edges with an end at one of the vertices are watched, and those that were watched before.
pub record Watches (p : Problem) (vertices : List ℕ) (old new : Watched) : Type 0 where
  pub room : new.edge_count ≡ old.edge_count
  pub minus : new.nodes ≡ old.nodes
  pub kept : (k : ℕ) → is_in old.edges k ≡ true → is_in new.edges k ≡ true
  pub near : (v k : ℕ) → is_in vertices v ≡ true → k < length p.edges → touches v (edge_at p.edges k) ≡ true
      → is_in new.edges k ≡ true
  pub only : (k : ℕ) → is_in new.edges k ≡ true
      → ((v : ℕ) → is_in vertices v ≡ true → touches v (edge_at p.edges k) ≡ false) → is_in old.edges k ≡ true
  pub bounds : (before after : ℕ → ℕ)
      → ((k : ℕ) → ((v : ℕ) → is_in vertices v ≡ true → touches v (edge_at p.edges k) ≡ false) → before k ≤ after k)
      → AreBounded before old → AreBounded after new

-- Of these edges, those are watched whose ends aren't under one outer node, with bounds that are right in these roles; others are watched
-- as before.
pub record WatchesOuter (p : Problem) (roles : Roles) (nodes : List Node) (edges : List ℕ) (old new : Watched) : Type 0 where
  pub room : new.edge_count ≡ old.edge_count
  pub minus : new.nodes ≡ old.nodes
  pub watched : (k : ℕ) → is_in new.edges k
      ≡ (if is_in edges k then not (is_inner nodes (edge_at p.edges k)) else is_in old.edges k)
  pub bounds : StaysRightAbove (slack_at p roles nodes) (is_in edges) old new

-- Of the edges at the vertex, those are watched whose ends aren't under one outer node, with bounds that are right in these roles; others
-- are watched as before.
pub record WatchesTaken (p : Problem) (roles : Roles) (nodes : List Node) (v : ℕ) (old new : Watched) : Type 0 where
  pub room : new.edge_count ≡ old.edge_count
  pub minus : new.nodes ≡ old.nodes
  pub watched : (k : ℕ) → k < length p.edges → is_in new.edges k
      ≡ (if touches v (edge_at p.edges k) then not (is_inner nodes (edge_at p.edges k)) else is_in old.edges k)
  pub bounds : StaysRightAbove (slack_at p roles nodes) (λ k. touches v (edge_at p.edges k)) old new

abbrev pub no_node : NodeBound
no_node = record { name = 0; bound = 0 }

-- the node stands first
abbrev pub IsFirstNode : List NodeBound → ℕ → Type 0
IsFirstNode nodes name = (0 < length nodes) × ((get_or nodes 0 no_node).name ≡ name)

-- the bounds of all other nodes are as low
abbrev pub KeepsBounds : ℕ → List NodeBound → List NodeBound → Type 0
KeepsBounds name old new =
    (other limit : ℕ) → (other ≡ name → ⊥) → has_bound old other limit ≡ true → has_bound new other limit ≡ true

-- the bounds after top layers may have fallen by half of this much
abbrev pub lowered_bounds : ℕ → List NodeBound → List NodeBound
lowered_bounds length nodes = map (λ n. record { name = n.name; bound = n.bound - length }) nodes

-- The node is watched, with a bound of at most this. Other nodes are watched as before, and so are the edges.
pub record EntersNode (name limit : ℕ) (old new : Watched) : Type 0 where
  pub same : new ≡ record old { nodes = new.nodes }
  pub entered : has_bound new.nodes name limit ≡ true
  pub kept : (other most : ℕ) → has_bound old.nodes other most ≡ true → has_bound new.nodes other most ≡ true
