-- The greatest length of a step.
use Rattle.std.specs.Prelude.{ℕ, ◌≡◌, ◌+◌, ◌≤◌, ◌<◌, true, List, length}
use Rattle.fb_graph.specs.Problem.{Problem}
use Rattle.fb_graph.specs.Certificate.{IsPacking}
use Rattle.fb_graph.specs.Laws.{HasNoOddClosed}
use Rattle.fb_graph.specs.Dual.{Node, all_cuts, node_at}
use Rattle.fb_graph.specs.Steps.{Roles, AreExclusive, MayStep, stepped_nodes}

-- some node grows
abbrev pub HasPlus : Roles → List Node → Type 0
HasPlus roles nodes = (i : ℕ) × (i < length nodes) × (roles.is_plus (node_at nodes i).name ≡ true)

-- a step of length k is allowed, and none by one more
pub record IsGreatestStep (p : Problem) (roles : Roles) (nodes : List Node) (k : ℕ) : Type 0 where
  pub allowed : MayStep p roles nodes k
  pub greatest : ¬ MayStep p roles nodes (k + 1)

-- Feasible cuts allow the step of length 0.
abbrev pub NoLength : Type 0
NoLength = (p : Problem) (roles : Roles) (nodes : List Node) → IsPacking p (all_cuts nodes) → MayStep p roles nodes 0

-- If a step is allowed, there is a greatest one, so that no tree grows for ever: a minus node bounds it or, if there is
-- none, an edge that leaves a plus node.
abbrev pub GreatestStep : Type 0
GreatestStep = (p : Problem) (roles : Roles) (nodes : List Node) (j : ℕ) → AreExclusive roles → HasPlus roles nodes
    → HasNoOddClosed p → IsPacking p (all_cuts nodes) → MayStep p roles nodes j
    → (k : ℕ) × (j ≤ k) × IsGreatestStep p roles nodes k

-- No longer step is allowed.
abbrev pub GreatestBounds : Type 0
GreatestBounds = (p : Problem) (roles : Roles) (nodes : List Node) (k j : ℕ) → AreExclusive roles
    → IsPacking p (all_cuts nodes) → IsGreatestStep p roles nodes k → MayStep p roles nodes j → j ≤ k

-- After the greatest step no further one is allowed, so that the next obstacle is another one.
abbrev pub AfterGreatest : Type 0
AfterGreatest = (p : Problem) (roles : Roles) (nodes : List Node) (k : ℕ) → AreExclusive roles
    → IsGreatestStep p roles nodes k → ¬ MayStep p roles (stepped_nodes roles k nodes) 1
