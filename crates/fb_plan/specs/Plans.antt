-- A plan of fusion (Wu and Zhong 2023): a binary tree whose leaves are units, and for each real vertex the node that
-- owns it. Units are numbered from 0, then come the fusions in their order; the root is the last node.
use Rattle.std.specs.Prelude.{ℕ, ◌≡◌, ◌≢◌, ◌+◌, ◌-◌, ◌<◌, ◌≤◌, ◌==◌, ◌&&◌, ◌||◌, Bool, true, false, not, nat_lt, is_some, if◌then◌else◌, List, [], ◌∷◌, ◌++◌, map, length, get_or, slice_get, All, Option, Some, None}
use Rattle.std.specs.List.{range_with_len}
use Rattle.fb_graph.specs.Parity.{is_in}
use Rattle.fb_graph.specs.Problem.{Problem}
use Rattle.fb_graph.specs.Limits.{DecodingGraph, ShotValue, is_real_in, problem_of}
use Rattle.fb_graph.specs.declared.parts.Edge.{Edge}

-- a plan as contracts see it
pub record PlanTree : Type 0 where
  pub units : ℕ
  -- the two children of each fusion; fusion i is node units + i
  pub joins : List (ℕ × ℕ)
  -- the node that owns each vertex; None for a virtual one
  pub owners : List (Option ℕ)

-- the most units of a plan
abbrev pub most_units : ℕ
most_units = 4096

abbrev pub node_count : PlanTree → ℕ
node_count t = t.units + length t.joins

abbrev pub root_of : PlanTree → ℕ
root_of t = node_count t - 1

-- the two children of a node; None for a unit
abbrev pub children_of : PlanTree → ℕ → Option (ℕ × ℕ)
children_of t n = if nat_lt n t.units then None else slice_get t.joins (n - t.units)

-- the fusion has the node as a child
abbrev pub names : ℕ × ℕ → ℕ → Bool
names join n = join.0 == n || join.1 == n

-- the first fusion of the list that has the node as a child, the list's first one being node i
abbrev pub parent_from : ℕ → List (ℕ × ℕ) → ℕ → Option ℕ
parent_from i [] n = None
parent_from i (join ∷ joins) n = if names join n then Some i else parent_from (i + 1) joins n

-- the fusion whose child a node is; None for the root
abbrev pub parent_of : PlanTree → ℕ → Option ℕ
parent_of t n = parent_from t.units t.joins n

-- the node that owns a vertex; None for a virtual one
abbrev pub owner_of : PlanTree → ℕ → Option ℕ
owner_of t v = get_or t.owners v None

-- the subtrees of all nodes, those of the first nodes being known: a fusion's is its children's and itself
abbrev pub subtrees_from : List (List ℕ) → List (ℕ × ℕ) → List (List ℕ)
subtrees_from known [] = known
subtrees_from known (join ∷ joins) =
    subtrees_from (known ++ (get_or known join.0 [] ++ get_or known join.1 [] ++ length known ∷ []) ∷ []) joins

-- for each node the nodes of its subtree, itself among them
abbrev pub subtrees : PlanTree → List (List ℕ)
subtrees t = subtrees_from (map (λ n. n ∷ []) (range_with_len 0 t.units)) t.joins

-- node m is node n or below it
abbrev pub is_within : PlanTree → ℕ → ℕ → Bool
is_within t n m = is_in (get_or (subtrees t) n []) m

abbrev pub is_owner_within : PlanTree → ℕ → Option ℕ → Bool
is_owner_within t n None = false
is_owner_within t n (Some m) = is_within t n m

-- the vertex is owned in the subtree of node n
abbrev pub is_owned_in : PlanTree → ℕ → ℕ → Bool
is_owned_in t n v = is_owner_within t n (owner_of t v)

-- the vertex is real in the graph and not owned in the subtree of node n, so that it is met above n alone
abbrev pub is_pending : PlanTree → DecodingGraph → ℕ → ℕ → Bool
is_pending t g n v = is_real_in g v && not (is_owned_in t n v)

-- both are nodes, and neither is the other or below it
abbrev pub are_unrelated : PlanTree → Option ℕ → Option ℕ → Bool
are_unrelated t (Some m) (Some n) = not (is_within t m n || is_within t n m)
are_unrelated t (Some m) None = false
are_unrelated t None owner = false

-- both ends of the edge have owners, and neither owner is the other or below it
abbrev pub goes_across : PlanTree → Edge → Bool
goes_across t e = are_unrelated t (owner_of t e.first) (owner_of t e.second)

abbrev pub join_at : List (ℕ × ℕ) → ℕ → ℕ × ℕ
join_at joins i = get_or joins i (0, 0)

-- two different children, both below node n
pub record IsJoin (n : ℕ) (join : ℕ × ℕ) : Type 0 where
  pub left : join.0 < n
  pub right : join.1 < n
  pub differ : join.0 ≢ join.1

-- A binary tree. Its nodes are one fewer than twice its units, and each but the root is a child of exactly one fusion.
pub record IsTree (t : PlanTree) : Type 0 where
  pub limit : t.units ≤ most_units
  pub count : t.units ≡ length t.joins + 1
  pub joins : (i : ℕ) → i < length t.joins → IsJoin (t.units + i) (join_at t.joins i)
  -- no node is a child of two fusions
  pub once : (i k n : ℕ) → i < length t.joins → k < length t.joins → names (join_at t.joins i) n ≡ true
      → names (join_at t.joins k) n ≡ true → i ≡ k

-- A plan of a graph: each real vertex has an owner, and an edge with two real ends joins two vertices of one owner, or
-- of a node and one below it.
pub record IsPlan (g : DecodingGraph) (t : PlanTree) : Type 0 where
  pub tree : IsTree t
  pub count : length t.owners ≡ g.vertices
  pub owned : (v : ℕ) → is_some (owner_of t v) ≡ is_real_in g v
  pub owners : (v n : ℕ) → owner_of t v ≡ Some n → n < node_count t
  pub edges : All (λ e. goes_across t e ≡ false) g.edges

-- the node as the owner of the vertex, if that is real
abbrev pub real_owner : DecodingGraph → ℕ → ℕ → Option ℕ
real_owner g n v = if is_real_in g v then Some n else None

-- the plan of one unit, which owns every real vertex
abbrev pub single_of : DecodingGraph → PlanTree
single_of g = record {
  units = 1;
  joins = [];
  owners = map (real_owner g 0) (range_with_len 0 g.vertices);
}

-- The sub-problem of a node (Wu and Zhong 2023): real are the vertices owned in its subtree, every other vertex is
-- boundary. Edges and their numbers are the graph's.
abbrev pub problem_at : DecodingGraph → PlanTree → ℕ → ShotValue → Problem
problem_at g t n shot = record (problem_of g shot) { is_real = λ v. is_real_in g v && is_owned_in t n v }

-- A job: shots to be decoded by a plan of a graph. A slot is a place in the list of shots.
pub record JobValue : Type 0 where
  pub graph : DecodingGraph
  pub plan : PlanTree
  pub shots : List ShotValue
