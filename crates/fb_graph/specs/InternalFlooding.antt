-- A search through a problem that gives each vertex the label of its component, one component after another.
use Rattle.std.specs.Prelude.{ℕ, ◌≡◌, ◌<◌, ◌≤◌, Bool, true, false, if◌then◌else◌, List, [], ◌∷◌, ◌++◌, length, take, drop, get_or, slice_set, All}
use Rattle.fb_graph.specs.Parity.{is_in}
use Rattle.fb_graph.specs.Problem.{Problem, edge_at, touches}
use Rattle.fb_graph.specs.Certificate.{AreDistinct}
use Rattle.fb_graph.specs.Components.{IsJoined}
use Rattle.fb_graph.specs.InternalLabelling.{label_of}
use Rattle.fb_graph.specs.declared.parts.Edge.{Edge}

-- the vertices that were reached so far, in their order, and the label that each of them got
pub record Reached : Type 0 where
  pub labels : List ℕ
  pub order : List ℕ

-- a flag is set for each vertex that was reached, and the order has each of them once
pub record IsReached (labels : List ℕ) (flags : List Bool) (order : List ℕ) : Type 0 where
  pub count : length flags ≡ length labels
  pub each : (v : ℕ) → v < length labels → get_or flags v false ≡ is_in order v
  pub distinct : AreDistinct order
  pub below : All (λ v. v < length labels) order

-- the vertex reached with this label, unless it was reached before
abbrev pub with_vertex : Reached → ℕ → ℕ → Reached
with_vertex s v label =
    if is_in s.order v then s else record { labels = slice_set s.labels v label; order = s.order ++ v ∷ [] }

-- both ends of an edge reached with this label
abbrev pub with_ends : Problem → Reached → ℕ → ℕ → Reached
with_ends p s k label = with_vertex (with_vertex s (edge_at p.edges k).first label) (edge_at p.edges k).second label

-- more was reached, and what was reached before stays as it was
pub record Grows (old new : Reached) : Type 0 where
  pub longer : length old.order ≤ length new.order
  pub places : (i : ℕ) → i < length old.order → get_or new.order i 0 ≡ get_or old.order i 0
  pub within : (v : ℕ) → is_in old.order v ≡ true → is_in new.order v ≡ true
  pub labels : (v : ℕ) → is_in old.order v ≡ true → label_of new.labels v ≡ label_of old.labels v

-- both ends of the edge were reached, with one label
pub record IsSettled (s : Reached) (e : Edge) : Type 0 where
  pub first : is_in s.order e.first ≡ true
  pub second : is_in s.order e.second ≡ true
  pub same : label_of s.labels e.first ≡ label_of s.labels e.second

-- Each vertex that was reached is joined to its label, which isn't above it. All below `label` were. Of the first
-- `head` ones each edge is settled; the others have this label and wait.
pub record IsFlooding (p : Problem) (s : Reached) (head label : ℕ) : Type 0 where
  pub count : length s.labels ≡ p.vertices
  pub low : (v : ℕ) → is_in s.order v ≡ true → label_of s.labels v ≤ v
  pub joined : (v : ℕ) → is_in s.order v ≡ true → IsJoined p v (label_of s.labels v)
  pub passed : (v : ℕ) → v < label → is_in s.order v ≡ true
  pub settled : (v : ℕ) → is_in (take head s.order) v ≡ true
      → (k : ℕ) → k < length p.edges → touches v (edge_at p.edges k) ≡ true → IsSettled s (edge_at p.edges k)
  pub waiting : (v : ℕ) → is_in (drop head s.order) v ≡ true → label_of s.labels v ≡ label
