-- A step made node by node: first each minus node shrinks, then each plus node grows.
use Rattle.std.specs.Prelude.{ℕ, ◌≡◌, ◌-◌, ◌≤◌, ◌==◌, ◌||◌, true, false, List, All}
use Rattle.fb_graph.specs.Problem.{Problem}
use Rattle.fb_graph.specs.Dual.{Node, AllowsGrowth, change_at, thicker_node, top_at}
use Rattle.fb_graph.specs.Steps.{Roles, AreExclusive, MayStep, stepped_nodes}

-- the node with its top layer thinner
abbrev pub thinner_node : ℕ → Node → Node
thinner_node k n = record n { top = record n.top { value = n.top.value - k } }

abbrev pub with_minus : Roles → ℕ → Roles
with_minus roles name = record roles { is_minus = λ n. roles.is_minus n || (n == name) }

abbrev pub with_plus : Roles → ℕ → Roles
with_plus roles name = record roles { is_plus = λ n. roles.is_plus n || (n == name) }

abbrev pub no_roles : Roles
no_roles = record { is_plus = λ n. false; is_minus = λ n. false }

-- Without roles nothing changes.
abbrev pub NoTurn : Type 0
NoTurn = (k : ℕ) (nodes : List Node) → stepped_nodes no_roles k nodes ≡ nodes

-- One more node that shrinks or grows is one more with its role.
abbrev pub ShrunkNext : Type 0
ShrunkNext = (roles : Roles) (k name : ℕ) (nodes : List Node) → roles.is_plus name ≡ false → roles.is_minus name ≡ false
    → change_at name (thinner_node k) (stepped_nodes roles k nodes) ≡ stepped_nodes (with_minus roles name) k nodes

abbrev pub GrownNext : Type 0
GrownNext = (roles : Roles) (k name : ℕ) (nodes : List Node) → roles.is_plus name ≡ false → roles.is_minus name ≡ false
    → change_at name (thicker_node k) (stepped_nodes roles k nodes) ≡ stepped_nodes (with_plus roles name) k nodes

-- Roles that agree on each name make the same step.
abbrev pub SameRoles : Type 0
SameRoles = (roles other : Roles) (k : ℕ) (nodes : List Node) → ((n : ℕ) → roles.is_plus n ≡ other.is_plus n)
    → ((n : ℕ) → roles.is_minus n ≡ other.is_minus n) → stepped_nodes roles k nodes ≡ stepped_nodes other k nodes

-- the same minus nodes, and only plus nodes of the other roles
pub record IsPartlyGrown (part roles : Roles) : Type 0 where
  pub minus : (n : ℕ) → part.is_minus n ≡ roles.is_minus n
  pub plus : (n : ℕ) → part.is_plus n ≡ true → roles.is_plus n ≡ true

-- A step leaves the sets.
abbrev pub TopStepped : Type 0
TopStepped = (roles : Roles) (k name : ℕ) (nodes : List Node) → top_at (stepped_nodes roles k nodes) name ≡ top_at nodes name

-- After the minus nodes have shrunk each plus node may grow, whichever have grown before it. Before they have, it may
-- not.
abbrev pub GrowthAllowed : Type 0
GrowthAllowed = (p : Problem) (part roles : Roles) (nodes : List Node) (k name : ℕ) → AreExclusive roles
    → MayStep p roles nodes k → IsPartlyGrown part roles → roles.is_plus name ≡ true → part.is_plus name ≡ false
    → AllowsGrowth p (stepped_nodes part k nodes) (top_at nodes name) k

-- Each minus node may shrink, whichever have shrunk before it.
abbrev pub ShrinkAllowed : Type 0
ShrinkAllowed = (p : Problem) (part roles : Roles) (nodes : List Node) (k name : ℕ) → MayStep p roles nodes k
    → roles.is_minus name ≡ true → part.is_minus name ≡ false → part.is_plus name ≡ false
    → All (λ n. n.name ≡ name → k ≤ n.top.value) (stepped_nodes part k nodes)
