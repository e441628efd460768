-- What is left to do in a search stays below a bound, so that one number falls from step to step.
use Rattle.std.specs.Prelude.{ℕ, ◌≡◌, ◌+◌, ◌*◌, ◌<◌, ◌≤◌, Bool, true, List, length, All, count_by, not}
use Rattle.fb_graph.specs.Problem.{Problem}
use Rattle.fb_graph.specs.Covers.{AreRoles}
use Rattle.fb_graph.specs.Dual.{Node, is_empty, leaves}
use Rattle.fb_graph.specs.Nests.{IsNest}
use Rattle.fb_graph.specs.Steps.{Roles}
use Rattle.fb_laws.specs.Measures.{IsLower, rank_of}
use Rattle.fb_laws.specs.SearchLayers.{left_to_do}

-- each real vertex is one of the problem's
abbrev pub IsRealBelow : Problem → Type 0
IsRealBelow p = (v : ℕ) → p.is_real v ≡ true → v < p.vertices

-- A dual state has no more defects than there are vertices.
abbrev pub FewLeaves : Type 0
FewLeaves = (p : Problem) (nodes : List Node) → IsRealBelow p → IsNest p nodes → length (leaves nodes) ≤ p.vertices

-- Each blossom joins three nodes or more, and no node is joined twice: so there are at most half as many blossoms as
-- defects.
abbrev pub FewBlossoms : Type 0
FewBlossoms = (p : Problem) (nodes : List Node) → IsNest p nodes
    → 2 * count_by (λ n. not (is_empty n.children)) nodes ≤ length (leaves nodes)

-- So each part of what is left to do is at most the number of vertices, but for the last, which is at most 1.
abbrev pub PartsBelow : Type 0
PartsBelow = (p : Problem) (nodes : List Node) (roles : Roles) (free : Bool) → IsRealBelow p → IsNest p nodes
    → AreRoles roles nodes → All (λ part. part < p.vertices + 2) (left_to_do p nodes roles free)

-- what is left to do as one number
abbrev pub search_rank : Problem → List Node → Roles → Bool → ℕ
search_rank p nodes roles free = rank_of (p.vertices + 2) (left_to_do p nodes roles free)

-- It falls if what is left is less, part by part.
abbrev pub SearchRankFalls : Type 0
SearchRankFalls = (p : Problem) (nodes others : List Node) (roles moved : Roles) (free freed : Bool) → IsRealBelow p
    → IsNest p others → AreRoles moved others
    → IsLower (left_to_do p others moved freed) (left_to_do p nodes roles free)
    → search_rank p others moved freed < search_rank p nodes roles free
