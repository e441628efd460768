-- How far an alternating tree may step, by each edge's ends.
use Rattle.std.specs.Prelude.{ℕ, ◌≡◌, ◌+◌, ◌*◌, ◌≤◌, true, false, List, All}
use Rattle.fb_graph.specs.Problem.{Problem}
use Rattle.fb_graph.specs.Certificate.{load_of}
use Rattle.fb_graph.specs.Dual.{Node, IsDual, all_cuts, AreUnderOne}
use Rattle.fb_graph.specs.declared.parts.Edge.{Edge}
use Rattle.fb_graph.specs.Steps.{Roles, AllowShrinking, MayStep}
use Rattle.fb_graph.specs.Covers.{AreRoles, HasNoObstacle, is_covered_by}

-- The edge can bear a step of length k: the length itself if one end is under a plus node and the other under neither
-- a plus nor a minus node, and twice the length if both ends are under plus nodes.
pub record Bears (roles : Roles) (nodes : List Node) (k : ℕ) (e : Edge) : Type 0 where
  pub first : is_covered_by roles.is_plus nodes e.first ≡ true → is_covered_by roles.is_plus nodes e.second ≡ false
      → is_covered_by roles.is_minus nodes e.second ≡ false → load_of (all_cuts nodes) e + k ≤ e.weight
  pub second : is_covered_by roles.is_plus nodes e.second ≡ true → is_covered_by roles.is_plus nodes e.first ≡ false
      → is_covered_by roles.is_minus nodes e.first ≡ false → load_of (all_cuts nodes) e + k ≤ e.weight
  pub both : is_covered_by roles.is_plus nodes e.first ≡ true → is_covered_by roles.is_plus nodes e.second ≡ true
      → load_of (all_cuts nodes) e + 2 * k ≤ e.weight

-- each edge that isn't within one outer node bears the length, and each minus node's top layer is at least as thick
pub record IsBounded (p : Problem) (roles : Roles) (nodes : List Node) (k : ℕ) : Type 0 where
  pub edges : All (λ e. ¬ AreUnderOne nodes e.first e.second → Bears roles nodes k e) p.edges
  pub layers : AllowShrinking roles nodes k

-- A step of such a length is allowed.
abbrev pub BoundedSteps : Type 0
BoundedSteps = (p : Problem) (roles : Roles) (nodes : List Node) (k : ℕ) → IsDual p nodes → AreRoles roles nodes
    → IsBounded p roles nodes k → MayStep p roles nodes k

-- No other step is.
abbrev pub StepsBounded : Type 0
StepsBounded = (p : Problem) (roles : Roles) (nodes : List Node) (k : ℕ) → IsDual p nodes → AreRoles roles nodes
    → MayStep p roles nodes k → IsBounded p roles nodes k

-- If a step of some length is allowed, there is no obstacle.
abbrev pub NoObstacleBefore : Type 0
NoObstacleBefore = (p : Problem) (roles : Roles) (nodes : List Node) (k : ℕ) → IsDual p nodes → AreRoles roles nodes
    → 1 ≤ k → MayStep p roles nodes k → HasNoObstacle p roles nodes
