-- Which shots have no correction: those with a component without boundary that holds an odd number of defects.
use Rattle.std.specs.Prelude.{ℕ, ◌≡◌, ◌<◌, ◌⊎◌, true, List, [], ◌∷◌, length, Option}
use Rattle.std.specs.Prelude.{Some, None}
use Rattle.fb_graph.specs.Parity.{is_odd_count, is_in}
use Rattle.fb_graph.specs.Problem.{Problem, edge_at}
use Rattle.fb_graph.specs.Certificate.{AreDistinct}
use Rattle.fb_graph.specs.declared.parts.Edge.{Edge}

-- the edge leads from the one vertex to the other
abbrev pub Leads : Edge → ℕ → ℕ → Type 0
Leads e from to = ((e.first ≡ from) × (e.second ≡ to)) ⊎ ((e.second ≡ from) × (e.first ≡ to))

-- the edges of these numbers lead from the one vertex to the other, one after another
abbrev pub IsWalkBy : Problem → List ℕ → ℕ → ℕ → Type 0
IsWalkBy p [] from to = from ≡ to
IsWalkBy p (k ∷ ks) from to =
    (next : ℕ) × (k < length p.edges) × Leads (edge_at p.edges k) from next × IsWalkBy p ks next to

-- some list of edges leads from the one vertex to the other
abbrev pub IsJoined : Problem → ℕ → ℕ → Type 0
IsJoined p from to = (ks : List ℕ) × IsWalkBy p ks from to

-- the list holds just the vertices that are joined to v, each once
pub record IsComponent (p : Problem) (v : ℕ) (members : List ℕ) : Type 0 where
  pub distinct : AreDistinct members
  pub inside : (u : ℕ) → is_in members u ≡ true → IsJoined p v u
  pub whole : (u : ℕ) → IsJoined p v u → is_in members u ≡ true

-- nothing that is joined to v is boundary, and the number of defects joined to v (itself included) is odd
pub record IsOddAt (p : Problem) (v : ℕ) : Type 0 where
  pub below : v < p.vertices
  pub members : List ℕ
  pub component : IsComponent p v members
  pub real : (u : ℕ) → is_in members u ≡ true → p.is_real u ≡ true
  pub odd : is_odd_count p.is_defect members ≡ true

-- the least vertex with an odd component; None if there is none
abbrev pub IsFirstOdd : Problem → Option ℕ → Type 0
IsFirstOdd p (Some v) = IsOddAt p v × ((u : ℕ) → u < v → ¬ IsOddAt p u)
IsFirstOdd p None = (u : ℕ) → ¬ IsOddAt p u
