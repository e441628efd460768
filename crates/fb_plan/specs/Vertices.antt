-- The vertices of a plan's nodes: those that a node owns itself, and those of its whole subtree.
use Rattle.std.specs.Prelude.{ℕ, ◌+◌, ◌==◌, Bool, false, if◌then◌else◌, List, [], ◌∷◌, length, map, filter, get_or, Option, Some, None}
use Rattle.std.specs.List.{concat, range_with_len}
use Rattle.fb_plan.specs.Plans.{PlanTree, owner_of, subtrees}

-- the owner is node n
abbrev pub is_node : ℕ → Option ℕ → Bool
is_node n None = false
is_node n (Some m) = m == n

-- the vertices that node n owns itself, rising
abbrev pub owned_by : PlanTree → ℕ → List ℕ
owned_by t n = filter (λ v. is_node n (owner_of t v)) (range_with_len 0 (length t.owners))

-- The real vertices of the subtree of node n: each node's own ones together, a fusion's after those of its children.
abbrev pub vertices_in : PlanTree → ℕ → List ℕ
vertices_in t n = concat (map (owned_by t) (get_or (subtrees t) n []))

-- the place of a number in a list that holds it, from 0 on
abbrev pub place_among : List ℕ → ℕ → ℕ
place_among [] v = 0
place_among (u ∷ us) v = if u == v then 0 else place_among us v + 1

-- the place of a vertex among those of the subtree of node n
abbrev pub place_in : PlanTree → ℕ → ℕ → ℕ
place_in t n v = place_among (vertices_in t n) v
