-- Source walks: from a defect to a vertex, weighing what the one's potential is above the other's. Each set of a dual
-- state has them to its vertices, over its own vertices alone (Edmonds 1965; Wu and Zhong 2023).
use Rattle.std.specs.Prelude.{ℕ, ◌≡◌, true, List, All, Some}
use Rattle.fb_graph.specs.Parity.{is_in}
use Rattle.fb_graph.specs.Problem.{Problem, edge_at}
use Rattle.fb_graph.specs.Dual.{Node, all_cuts, leaves, cover_of}
use Rattle.fb_graph.specs.declared.parts.Edge.{Edge}
use Rattle.fb_graph.specs.Steps.{Roles, AllowShrinking, stepped_nodes}
use Rattle.fb_graph.specs.Covers.{AreRoles}
use Rattle.fb_graph.specs.Links.{IsSourceWalk}
use Rattle.fb_graph.specs.Singles.{Single, nodes_of}
use Rattle.fb_graph.specs.Nests.{IsNest}
use Rattle.fb_graph.specs.Moves.{MayJoin, MaySplit, MayAbsorb, MayUncover, joined_nodes, split_nodes, absorbed_nodes, uncovered_nodes}

-- both ends of the edge lie in the set
abbrev pub IsEdgeIn : List ℕ → Edge → Type 0
IsEdgeIn set e = (is_in set e.first ≡ true) × (is_in set e.second ≡ true)

-- a source walk from a defect of the set that doesn't leave the set
pub record IsWalkInside (p : Problem) (nodes : List Node) (set walk : List ℕ) (d v : ℕ) : Type 0 where
  pub defect : is_in (leaves nodes) d ≡ true
  pub begins : is_in set d ≡ true
  pub stays : All (λ k. IsEdgeIn set (edge_at p.edges k)) walk
  pub source : IsSourceWalk p (all_cuts nodes) walk d v

abbrev pub HasWalks : Problem → List Node → List ℕ → Type 0
HasWalks p nodes set = (v : ℕ) → is_in set v ≡ true → (walk : List ℕ) × (d : ℕ) × IsWalkInside p nodes set walk d v

-- Each layer of each node has such walks to all its vertices. They are asked of each layer, since the top one may be
-- taken off, and of inner nodes, since a blossom may be split.
abbrev pub HaveWalks : Problem → List Node → Type 0
HaveWalks p nodes = All (λ c. HasWalks p nodes c.vertices) (all_cuts nodes)

-- They are there at the beginning, and each move keeps them.
abbrev pub WalksBegin : Type 0
WalksBegin = (p : Problem) (singles : List Single) → HaveWalks p (nodes_of singles)

abbrev pub WalksJoined : Type 0
WalksJoined = (p : Problem) (nodes : List Node) (name : ℕ) (children : List ℕ) → MayJoin nodes name children
    → IsNest p nodes → HaveWalks p nodes → HaveWalks p (joined_nodes name children nodes)

abbrev pub WalksSplit : Type 0
WalksSplit = (p : Problem) (nodes : List Node) (name : ℕ) → MaySplit nodes name → IsNest p nodes → HaveWalks p nodes
    → HaveWalks p (split_nodes name nodes)

abbrev pub WalksAbsorbed : Type 0
WalksAbsorbed = (p : Problem) (nodes : List Node) (name k u v : ℕ) → MayAbsorb p nodes name k u v → IsNest p nodes
    → HaveWalks p nodes → HaveWalks p (absorbed_nodes name v nodes)

abbrev pub WalksUncovered : Type 0
WalksUncovered = (p : Problem) (nodes : List Node) (name : ℕ) → MayUncover nodes name → IsNest p nodes
    → HaveWalks p nodes → HaveWalks p (uncovered_nodes name nodes)

abbrev pub WalksStepped : Type 0
WalksStepped = (p : Problem) (roles : Roles) (nodes : List Node) (k : ℕ) → AreRoles roles nodes
    → AllowShrinking roles nodes k → IsNest p nodes → HaveWalks p nodes → HaveWalks p (stepped_nodes roles k nodes)

-- one outer node holds both ends of the edge
abbrev pub IsEdgeUnder : List Node → ℕ → Edge → Type 0
IsEdgeUnder nodes name e = (cover_of nodes e.first ≡ Some name) × (cover_of nodes e.second ≡ Some name)

-- So each covered vertex has a source walk under its outer node.
abbrev pub CoveredWalk : Type 0
CoveredWalk = (p : Problem) (nodes : List Node) (v name : ℕ) → IsNest p nodes → HaveWalks p nodes
    → cover_of nodes v ≡ Some name
    → (walk : List ℕ) × (d : ℕ) × (is_in (leaves nodes) d ≡ true) × (cover_of nodes d ≡ Some name)
    × All (λ k. IsEdgeUnder nodes name (edge_at p.edges k)) walk × IsSourceWalk p (all_cuts nodes) walk d v
