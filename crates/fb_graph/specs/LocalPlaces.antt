-- Where a scope keeps what it notes of its real vertices: each has a place of its own in a table.
use Rattle.std.specs.Prelude.{ℕ, ◌≡◌, ◌<◌, ◌≤◌, true}
use Rattle.fb_graph.specs.Problem.{Problem}
use Rattle.fb_graph.specs.Limits.{most_vertices}

-- the places of real vertices differ, and are below the number of places
pub record ArePlaces (p : Problem) (place : ℕ → ℕ) (count : ℕ) : Type 0 where
  pub below : (v : ℕ) → p.is_real v ≡ true → place v < count
  pub apart : (u v : ℕ) → p.is_real u ≡ true → p.is_real v ≡ true → place u ≡ place v → u ≡ v
  pub limit : count ≤ most_vertices
