-- Edges that one outer node holds by both ends, and a watch that some of them leave.
use Rattle.std.specs.Prelude.{ℕ, ◌≡◌, ◌==◌, Bool, true, false, List, Option, Some, None}
use Rattle.fb_graph.specs.Parity.{is_in}
use Rattle.fb_graph.specs.Problem.{Problem, edge_at}
use Rattle.fb_graph.specs.Dual.{AreUnderOne, Node, cover_of}
use Rattle.fb_graph.specs.declared.parts.Edge.{Edge}
use Rattle.fb_obstacles.specs.Watched.{Watched}

-- whether both are the name of one node
abbrev pub is_one_node : Option ℕ → Option ℕ → Bool
is_one_node (Some m) (Some n) = m == n
is_one_node (Some m) None = false
is_one_node None n = false

-- whether one outer node holds both ends of the edge
abbrev pub is_inner : List Node → Edge → Bool
is_inner nodes e = is_one_node (cover_of nodes e.first) (cover_of nodes e.second)

-- Only edges whose ends are under one outer node are watched no longer, and no other edge is watched.
pub record LeavesInner (p : Problem) (nodes : List Node) (old new : Watched) : Type 0 where
  pub room : new.edge_count ≡ old.edge_count
  pub kept : (k : ℕ) → is_in old.edges k ≡ true
      → ¬ AreUnderOne nodes (edge_at p.edges k).first (edge_at p.edges k).second → is_in new.edges k ≡ true
  pub none_new : (k : ℕ) → is_in new.edges k ≡ true → is_in old.edges k ≡ true
