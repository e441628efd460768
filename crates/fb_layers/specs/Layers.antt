-- The layers of a decoding graph: how far each real vertex is from the least one that it is connected with, over edges
-- with two real ends.
use Rattle.std.specs.Prelude.{ℕ, ◌≡◌, ◌+◌, ◌<◌, ◌≤◌, ◌&&◌, Bool, true, false, max, List, [], ◌∷◌, length, get_or, Option, Some, None}
use Rattle.fb_graph.specs.Problem.{edge_at}
use Rattle.fb_graph.specs.Components.{Leads}
use Rattle.fb_graph.specs.Limits.{DecodingGraph, is_real_in}
use Rattle.fb_graph.specs.declared.parts.Edge.{Edge}

-- both ends of the edge are real
abbrev pub is_inner : DecodingGraph → Edge → Bool
is_inner g e = is_real_in g e.first && is_real_in g e.second

-- the edges of these numbers, each with two real ends, lead from the one vertex to the other, one after another
abbrev pub IsInnerWalk : DecodingGraph → List ℕ → ℕ → ℕ → Type 0
IsInnerWalk g [] from to = from ≡ to
IsInnerWalk g (k ∷ ks) from to =
    (next : ℕ) × (k < length g.edges) × (is_inner g (edge_at g.edges k) ≡ true)
    × Leads (edge_at g.edges k) from next × IsInnerWalk g ks next to

-- The layer of a real vertex: the least number of such edges that lead to it from its root, which is the least vertex
-- that they connect it with.
pub record IsLayer (g : DecodingGraph) (v n : ℕ) : Type 0 where
  pub root : ℕ
  pub least : (u : ℕ) (ks : List ℕ) → IsInnerWalk g ks u v → root ≤ u
  pub walk : List ℕ
  pub leads : IsInnerWalk g walk root v
  pub count : length walk ≡ n
  pub shortest : (ks : List ℕ) → IsInnerWalk g ks root v → n ≤ length ks

-- the layer of a vertex in a list of them; None for a virtual one
abbrev pub layer_at : List (Option ℕ) → ℕ → Option ℕ
layer_at layers v = get_or layers v None

-- the list has the layer of each real vertex, and None for each virtual one
pub record AreLayers (g : DecodingGraph) (layers : List (Option ℕ)) : Type 0 where
  pub count : length layers ≡ g.vertices
  pub virtual : (v : ℕ) → is_real_in g v ≡ false → layer_at layers v ≡ None
  pub real : (v : ℕ) → is_real_in g v ≡ true → (n : ℕ) × (layer_at layers v ≡ Some n) × IsLayer g v n

-- one more than the layer of a real vertex
abbrev pub depth_of : Option ℕ → ℕ
depth_of None = 0
depth_of (Some n) = n + 1

-- how many layers there are: one more than the greatest, 0 without real vertices
abbrev pub height_of : List (Option ℕ) → ℕ
height_of [] = 0
height_of (layer ∷ layers) = max (depth_of layer) (height_of layers)
