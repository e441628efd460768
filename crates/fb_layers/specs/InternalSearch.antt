-- A search through a graph by a queue, one layer after another, from the least vertex that it has not reached yet.
use Rattle.std.specs.Prelude.{ℕ, suc, ◌≡◌, ◌+◌, ◌<◌, ◌≤◌, true, is_some, if◌then◌else◌, List, [], ◌∷◌, ◌++◌, length, get_or, slice_set, count_by, Option, Some}
use Rattle.fb_graph.specs.Problem.{edge_at}
use Rattle.fb_graph.specs.Components.{Leads}
use Rattle.fb_graph.specs.Limits.{DecodingGraph, is_real_in}
use Rattle.fb_graph.specs.declared.parts.Edge.{Edge}
use Rattle.fb_layers.specs.declared.search.Reached.{Reached}
use Rattle.fb_layers.specs.Layers.{is_inner, IsInnerWalk, layer_at}

-- the layers of the vertices that were reached so far, and these in their order
pub record Found : Type 0 where
  pub layers : List (Option ℕ)
  pub order : List Reached

-- the vertex reached in this layer, unless it was reached before
abbrev pub with_vertex : Found → ℕ → ℕ → Found
with_vertex s v n =
    if is_some (layer_at s.layers v) then s
    else record {
      layers = slice_set s.layers v (Some n);
      order = s.order ++ record { vertex = v; layer = n } ∷ [];
    }

abbrev pub reached_at : List Reached → ℕ → Reached
reached_at order i = get_or order i (record { vertex = 0; layer = 0 })

-- both ends of the edge were reached, in layers at most one apart
pub record IsNear (layers : List (Option ℕ)) (e : Edge) : Type 0 where
  pub first : ℕ
  pub second : ℕ
  pub first_at : layer_at layers e.first ≡ Some first
  pub second_at : layer_at layers e.second ≡ Some second
  pub up : second ≤ first + 1
  pub down : first ≤ second + 1

-- an edge with two real ends leads from v to a vertex of layer n
pub record HasLower (g : DecodingGraph) (layers : List (Option ℕ)) (v n : ℕ) : Type 0 where
  pub edge : ℕ
  pub vertex : ℕ
  pub within : edge < length g.edges
  pub inner : is_inner g (edge_at g.edges edge) ≡ true
  pub leads : Leads (edge_at g.edges edge) v vertex
  pub lower : layer_at layers vertex ≡ Some n

-- no vertex below v is connected with it
abbrev pub IsRoot : DecodingGraph → ℕ → Type 0
IsRoot g v = (u : ℕ) (ks : List ℕ) → IsInnerWalk g ks u v → v ≤ u

-- Of the first `head` vertices each edge with two real ends is near. The others wait, in layers that rise by at most
-- one. A vertex of layer 0 is a root, and each other one has a neighbour one layer lower.
pub record IsSearched (g : DecodingGraph) (s : Found) (head : ℕ) : Type 0 where
  pub count : length s.layers ≡ g.vertices
  pub few : length s.order ≤ count_by is_some s.layers
  pub listed : (i : ℕ) → i < length s.order
      → layer_at s.layers (reached_at s.order i).vertex ≡ Some (reached_at s.order i).layer
  pub placed : (v n : ℕ) → layer_at s.layers v ≡ Some n
      → (i : ℕ) × (i < length s.order) × (reached_at s.order i ≡ record { vertex = v; layer = n })
  pub real : (v n : ℕ) → layer_at s.layers v ≡ Some n → is_real_in g v ≡ true
  pub low : (v n : ℕ) → layer_at s.layers v ≡ Some n → n < length s.order
  pub near : (i k w : ℕ) → i < head → i < length s.order → k < length g.edges
      → is_inner g (edge_at g.edges k) ≡ true → Leads (edge_at g.edges k) (reached_at s.order i).vertex w
      → IsNear s.layers (edge_at g.edges k)
  pub waiting : (i j : ℕ) → head ≤ i → i ≤ j → j < length s.order
      → ((reached_at s.order i).layer ≤ (reached_at s.order j).layer)
      × ((reached_at s.order j).layer ≤ (reached_at s.order i).layer + 1)
  pub lower : (v n : ℕ) → layer_at s.layers v ≡ Some (suc n) → HasLower g s.layers v n
  pub root : (v : ℕ) → layer_at s.layers v ≡ Some 0 → IsRoot g v

-- more was reached, and what was reached before stays as it was
pub record Grows (old new : Found) : Type 0 where
  pub longer : length old.order ≤ length new.order
  pub places : (i : ℕ) → i < length old.order → reached_at new.order i ≡ reached_at old.order i
  pub layers : (v n : ℕ) → layer_at old.layers v ≡ Some n → layer_at new.layers v ≡ Some n
