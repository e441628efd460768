-- One step of an alternating tree (Edmonds 1965; Wu and Zhong 2023): its plus nodes grow and its minus nodes shrink by
-- one length. No number has a sign: what an edge gains and loses is counted apart.
use Rattle.std.specs.Prelude.{ℕ, ◌≡◌, ◌+◌, ◌-◌, ◌*◌, ◌≤◌, ◌&&◌, Bool, true, false, List, map, All, count_by, if◌then◌else◌}
use Rattle.fb_graph.specs.Problem.{Problem, crosses}
use Rattle.fb_graph.specs.Certificate.{IsPacking, load_of}
use Rattle.fb_graph.specs.Laws.{Link, IsTight, ends_of}
use Rattle.fb_graph.specs.Dual.{Node, all_cuts}
use Rattle.fb_graph.specs.declared.parts.Edge.{Edge}

-- which outer nodes grow and which shrink, by their names
pub record Roles : Type 0 where
  pub is_plus : ℕ → Bool
  pub is_minus : ℕ → Bool

-- no node has both roles
abbrev pub AreExclusive : Roles → Type 0
AreExclusive roles = (name : ℕ) → roles.is_plus name ≡ true → roles.is_minus name ≡ false

-- how many plus nodes' sets the edge crosses
abbrev pub gains : Roles → List Node → Edge → ℕ
gains roles nodes e = count_by (λ n. roles.is_plus n.name && crosses n.top.vertices e) nodes

-- how many minus nodes' sets the edge crosses
abbrev pub losses : Roles → List Node → Edge → ℕ
losses roles nodes e = count_by (λ n. roles.is_minus n.name && crosses n.top.vertices e) nodes

-- the value of a node's top layer after a step of length k
abbrev pub stepped_value : Roles → ℕ → Node → ℕ
stepped_value roles k n =
    if roles.is_plus n.name then n.top.value + k else if roles.is_minus n.name then n.top.value - k else n.top.value

abbrev pub stepped_node : Roles → ℕ → Node → Node
stepped_node roles k n = record n { top = record n.top { value = stepped_value roles k n } }

-- the nodes after a step of length k
abbrev pub stepped_nodes : Roles → ℕ → List Node → List Node
stepped_nodes roles k nodes = map (stepped_node roles k) nodes

-- each minus node's top layer is at least as thick
abbrev pub AllowShrinking : Roles → List Node → ℕ → Type 0
AllowShrinking roles nodes k = All (λ n. roles.is_minus n.name ≡ true → k ≤ n.top.value) nodes

-- each edge and each minus node allows a step of length k
pub record MayStep (p : Problem) (roles : Roles) (nodes : List Node) (k : ℕ) : Type 0 where
  pub edges : All
      (λ e. load_of (all_cuts nodes) e + k * gains roles nodes e ≤ e.weight + k * losses roles nodes e) p.edges
  pub tops : AllowShrinking roles nodes k

-- What a step does to the load of an edge, or of any pair of vertices.
abbrev pub LoadStepped : Type 0
LoadStepped = (roles : Roles) (nodes : List Node) (k : ℕ) (e : Edge) → AreExclusive roles → AllowShrinking roles nodes k
    → load_of (all_cuts (stepped_nodes roles k nodes)) e + k * losses roles nodes e
    ≡ load_of (all_cuts nodes) e + k * gains roles nodes e

-- A tight link whose ends cross as many plus as minus sets stays tight.
abbrev pub TightStepped : Type 0
TightStepped = (p : Problem) (roles : Roles) (nodes : List Node) (k : ℕ) (l : Link) → AreExclusive roles
    → AllowShrinking roles nodes k → gains roles nodes (ends_of l) ≡ losses roles nodes (ends_of l)
    → IsTight p (all_cuts nodes) l → IsTight p (all_cuts (stepped_nodes roles k nodes)) l

-- A step that every edge and every minus node allows keeps the cuts feasible.
abbrev pub PackingStepped : Type 0
PackingStepped = (p : Problem) (roles : Roles) (nodes : List Node) (k : ℕ) → AreExclusive roles
    → IsPacking p (all_cuts nodes) → MayStep p roles nodes k → IsPacking p (all_cuts (stepped_nodes roles k nodes))

-- If two steps are allowed one after the other, so is one by both lengths.
abbrev pub StepsAdd : Type 0
StepsAdd = (p : Problem) (roles : Roles) (nodes : List Node) (k j : ℕ) → AreExclusive roles
    → MayStep p roles nodes k → MayStep p roles (stepped_nodes roles k nodes) j → MayStep p roles nodes (k + j)

-- The other way round, a step that is allowed may be made in two.
abbrev pub StepsSplit : Type 0
StepsSplit = (p : Problem) (roles : Roles) (nodes : List Node) (k j : ℕ) → AreExclusive roles
    → IsPacking p (all_cuts nodes) → MayStep p roles nodes (k + j)
    → MayStep p roles nodes k × MayStep p roles (stepped_nodes roles k nodes) j

-- They lead to the same nodes.
abbrev pub SteppedTwice : Type 0
SteppedTwice = (roles : Roles) (nodes : List Node) (k j : ℕ) → AreExclusive roles
    → stepped_nodes roles j (stepped_nodes roles k nodes) ≡ stepped_nodes roles (k + j) nodes
