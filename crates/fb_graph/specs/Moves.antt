-- The moves of a dual state, and that they keep it.
use Rattle.std.specs.Prelude.{ℕ, ◌≡◌, ◌-◌, ◌<◌, ◌≤◌, ◌==◌, not, true, false, List, [], ◌∷◌, ◌++◌, map, length, get_or, take, filter, All, Some, None}
use Rattle.std.specs.List.{concat}
use Rattle.fb_graph.specs.Problem.{Problem, edge_at}
use Rattle.fb_graph.specs.Certificate.{AreDistinct, load_of}
use Rattle.fb_graph.specs.Components.{Leads}
use Rattle.fb_graph.specs.Limits.{IsWithinLimits}
use Rattle.fb_graph.specs.Dual.{Node, IsCrossed, all_cuts, change_at, cover_of, is_empty, is_live, is_outer, taller_node, top_at}
use Rattle.fb_graph.specs.Steps.{Roles, MayStep, stepped_nodes}
use Rattle.fb_graph.specs.Covers.{AreRoles}
use Rattle.fb_graph.specs.Links.{AreEven}
use Rattle.fb_graph.specs.Singles.{Single, nodes_of, vertices_of}
use Rattle.fb_graph.specs.Nests.{IsNest, AreMany}

-- the node that joins these, with one layer of value 0 over their sets
abbrev pub blossom : ℕ → List ℕ → List Node → Node
blossom name children nodes = record {
  name = name;
  children = children;
  below = [];
  top = record { value = 0; vertices = concat (map (top_at nodes) children) };
}

-- these nodes joined under a further name
abbrev pub joined_nodes : ℕ → List ℕ → List Node → List Node
joined_nodes name children nodes = nodes ++ blossom name children nodes ∷ []

-- the node of this name taken away, so that those which it joins are outer again
abbrev pub split_nodes : ℕ → List Node → List Node
split_nodes name nodes = filter (λ n. not (n.name == name)) nodes

-- a vertex more in the node of this name
abbrev pub absorbed_nodes : ℕ → ℕ → List Node → List Node
absorbed_nodes name v nodes = change_at name (taller_node v) nodes

-- the node without its top layer
abbrev pub without_top : Node → Node
without_top n = record n {
  below = take (length n.below - 1) n.below;
  top = get_or n.below (length n.below - 1) n.top;
}

-- the node of this name without its top layer
abbrev pub uncovered_nodes : ℕ → List Node → List Node
uncovered_nodes name nodes = change_at name without_top nodes

-- Nodes of one defect each, without values, are a beginning.
abbrev pub NestBegins : Type 0
NestBegins = (p : Problem) (singles : List Single) → AreDistinct (map (λ s. s.name) singles)
    → AreDistinct (vertices_of singles) → All (λ s. p.is_real s.vertex ≡ true) singles → All (λ s. s.value ≡ 0) singles
    → IsNest p (nodes_of singles)

-- an odd number of outer nodes, each once, and a name that no node has
pub record MayJoin (nodes : List Node) (name : ℕ) (children : List ℕ) : Type 0 where
  pub many : AreMany children
  pub live : All (λ c. is_live nodes c ≡ true) children
  pub outer : All (λ c. is_outer nodes c ≡ true) children
  pub fresh : is_live nodes name ≡ false

abbrev pub NestJoined : Type 0
NestJoined = (p : Problem) (nodes : List Node) (name : ℕ) (children : List ℕ) → MayJoin nodes name children
    → IsNest p nodes → IsNest p (joined_nodes name children nodes)

-- an outer node that joins others, with one layer, of value 0
pub record MaySplit (nodes : List Node) (name : ℕ) : Type 0 where
  pub live : is_live nodes name ≡ true
  pub outer : is_outer nodes name ≡ true
  pub bare : All (λ n. n.name ≡ name → (is_empty n.children ≡ false) × (n.below ≡ []) × (n.top.value ≡ 0)) nodes

abbrev pub NestSplit : Type 0
NestSplit = (p : Problem) (nodes : List Node) (name : ℕ) → MaySplit nodes name → IsNest p nodes → IsNest p (split_nodes name nodes)

-- edge k is tight, and leads from a vertex under the outer node of this name to an uncovered real one
pub record MayAbsorb (p : Problem) (nodes : List Node) (name k u v : ℕ) : Type 0 where
  pub within : k < length p.edges
  pub leads : Leads (edge_at p.edges k) u v
  pub tight : load_of (all_cuts nodes) (edge_at p.edges k) ≡ (edge_at p.edges k).weight
  pub covered : cover_of nodes u ≡ Some name
  pub uncovered : cover_of nodes v ≡ None
  pub real : p.is_real v ≡ true

abbrev pub NestAbsorbed : Type 0
NestAbsorbed = (p : Problem) (nodes : List Node) (name k u v : ℕ) → AreEven p → MayAbsorb p nodes name k u v
    → IsNest p nodes → IsNest p (absorbed_nodes name v nodes)

-- an outer node with more than one layer, of which the top one has value 0
pub record MayUncover (nodes : List Node) (name : ℕ) : Type 0 where
  pub live : is_live nodes name ≡ true
  pub outer : is_outer nodes name ≡ true
  pub bare : All (λ n. n.name ≡ name → (1 ≤ length n.below) × (n.top.value ≡ 0)) nodes

abbrev pub NestUncovered : Type 0
NestUncovered = (p : Problem) (nodes : List Node) (name : ℕ) → MayUncover nodes name → IsNest p nodes
    → IsNest p (uncovered_nodes name nodes)

-- A step keeps it if some edge leaves each plus node's set.
abbrev pub NestStepped : Type 0
NestStepped = (p : Problem) (roles : Roles) (nodes : List Node) (k : ℕ) → IsWithinLimits p → AreRoles roles nodes
    → All (λ n. roles.is_plus n.name ≡ true → IsCrossed p n.top.vertices) nodes → MayStep p roles nodes k
    → IsNest p nodes → IsNest p (stepped_nodes roles k nodes)
