-- Tight edges over which a tree meets the boundary, a node outside it, or itself.
use Rattle.std.specs.Prelude.{ℕ, ◌≡◌, Some}
use Rattle.fb_graph.specs.Dual.{cover_of}
use Rattle.fb_obstacles.specs.Obstacles.{IsBoundary, IsMeet}
use Rattle.fb_search.specs.InternalSearching.{SearchValue, problem_of, roles_in}

-- the tight edge leads from the plus node to the boundary
pub record LeadsOut (w : SearchValue) (edge plus : ℕ) : Type 0 where
  pub inner : ℕ
  pub outer : ℕ
  pub obstacle : IsBoundary (problem_of w) (roles_in w) w.part.nodes edge inner outer
  pub covered : cover_of w.part.nodes inner ≡ Some plus

-- the tight edge leads from the plus node to the other node, which is outside the tree
pub record Meets (w : SearchValue) (edge plus other : ℕ) : Type 0 where
  pub inner : ℕ
  pub outer : ℕ
  pub obstacle : IsMeet (problem_of w) (roles_in w) w.part.nodes edge inner outer other
  pub covered : cover_of w.part.nodes inner ≡ Some plus
