-- A search in which layers without value come and go, and what its steps leave to do.
use Rattle.std.specs.Prelude.{ℕ, ◌≡◌, ◌&&◌, ◌<◌, Bool, true, false, not, List, ◌∷◌, length, sum_by, count_by, None, if◌then◌else◌, []}
use Rattle.std.specs.List.{range_with_len}
use Rattle.fb_graph.specs.Parity.{is_in}
use Rattle.fb_graph.specs.Problem.{Problem}
use Rattle.fb_graph.specs.Laws.{Link}
use Rattle.fb_graph.specs.Dual.{Node, IsDual, leaves, cover_of, is_empty, is_live, is_outer, layers_of, change_at, taller_node}
use Rattle.fb_graph.specs.Counts.{as_count}
use Rattle.fb_graph.specs.Covers.{is_covered_by}
use Rattle.fb_laws.specs.Measures.{IsLower}
use Rattle.fb_graph.specs.Steps.{Roles, stepped_nodes}
use Rattle.fb_laws.specs.Trees.{Entry, roles_of}
use Rattle.fb_laws.specs.Searches.{IsSearch}
use Rattle.fb_graph.specs.Alike.{AreAlike}

-- If one is the state of a search, so is the other.
abbrev pub SearchAlike : Type 0
SearchAlike = (p : Problem) (nodes others : List Node) (tree : List Entry) (rest : List Link) (unmatched : List ℕ)
    (root r : ℕ) → AreAlike nodes others → IsDual p others → IsSearch p nodes tree rest unmatched root r
    → IsSearch p others tree rest unmatched root r

-- defects under no node that passes the test
abbrev pub defects_beside : (ℕ → Bool) → List Node → ℕ
defects_beside test nodes = count_by (λ d. not (is_covered_by test nodes d)) (leaves nodes)

-- blossoms that don't pass it
abbrev pub blossoms_beside : (ℕ → Bool) → List Node → ℕ
blossoms_beside test nodes = count_by (λ n. not (is_empty n.children) && not (test n.name)) nodes

-- vertices under no node that passes it
abbrev pub vertices_beside : Problem → (ℕ → Bool) → List Node → ℕ
vertices_beside p test nodes = count_by (λ v. not (is_covered_by test nodes v)) (range_with_len 0 p.vertices)

-- the layers of the nodes that pass it
abbrev pub layers_in : (ℕ → Bool) → List Node → ℕ
layers_in test nodes = sum_by (λ n. if test n.name then length (layers_of n) else 0) nodes

-- What a search has still to do, part by part: defects, blossoms and vertices that aren't plus, layers of minus nodes,
-- and whether the next step is free.
abbrev pub left_to_do : Problem → List Node → Roles → Bool → List ℕ
left_to_do p nodes roles free =
    defects_beside roles.is_plus nodes ∷ blossoms_beside roles.is_plus nodes ∷ vertices_beside p roles.is_plus nodes
    ∷ layers_in roles.is_minus nodes ∷ as_count free ∷ []

-- A free step leaves less, since after the greatest one no further step is free.
abbrev pub FreeLowers : Type 0
FreeLowers = (p : Problem) (nodes : List Node) (roles : Roles) (k : ℕ)
    → IsLower (left_to_do p (stepped_nodes roles k nodes) roles false) (left_to_do p nodes roles true)

-- Attaching two nodes lowers the defects that aren't plus.
abbrev pub AttachLowers : Type 0
AttachLowers = (p : Problem) (nodes : List Node) (tree : List Entry) (e : Entry) (rest : List Link)
    (unmatched : List ℕ) (root r : ℕ) (free freed : Bool) → IsSearch p nodes (e ∷ tree) rest unmatched root r
    → IsLower (left_to_do p nodes (roles_of root (e ∷ tree)) freed) (left_to_do p nodes (roles_of root tree) free)

-- A plus node that absorbs a vertex lowers the vertices that aren't plus, and no part before.
abbrev pub AbsorbLowers : Type 0
AbsorbLowers = (p : Problem) (nodes : List Node) (roles : Roles) (name v : ℕ) (free freed : Bool)
    → is_in (leaves nodes) v ≡ false → v < p.vertices → roles.is_plus name ≡ true → is_live nodes name ≡ true
    → is_outer nodes name ≡ true → cover_of nodes v ≡ None
    → IsLower (left_to_do p (change_at name (taller_node v) nodes) roles freed) (left_to_do p nodes roles free)

-- A minus node whose empty top layer is taken off has a layer less, and no part before is more.
abbrev pub UncoverLowers : Type 0
UncoverLowers = (p : Problem) (nodes : List Node) (roles : Roles) (name v : ℕ) (free freed : Bool)
    → is_in (leaves nodes) v ≡ false → roles.is_minus name ≡ true → roles.is_plus name ≡ false
    → is_live nodes name ≡ true → is_outer nodes name ≡ true → cover_of nodes v ≡ None
    → IsLower (left_to_do p nodes roles freed) (left_to_do p (change_at name (taller_node v) nodes) roles free)
