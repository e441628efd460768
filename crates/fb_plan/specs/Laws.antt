-- What every job keeps, and what follows from the definitions alone.
use Rattle.std.specs.Prelude.{ℕ, ◌≡◌, ◌+◌, ◌<◌, ◌^◌, ◌⊎◌, true, length, All, Some, None}
use Rattle.fb_graph.specs.Components.{IsFirstOdd}
use Rattle.fb_graph.specs.Limits.{DecodingGraph, IsGraph, IsShot, ShotValue, problem_of}
use Rattle.fb_graph.specs.ShotGraphs.{shot_graph}
use Rattle.fb_graph.specs.Signs.{shifted_shot}
use Rattle.fb_graph.specs.Laws.{HasNoOddClosed, IsPart, AreSeparated}
use Rattle.fb_plan.specs.Plans.{PlanTree, JobValue, IsPlan, IsTree, children_of, is_within, node_count, parent_of, problem_at, root_of}

-- what every job keeps: fewer than 2^32 shots, each with a correction
pub record IsJob (job : JobValue) : Type 0 where
  pub graph : IsGraph job.graph
  pub plan : IsPlan job.graph job.plan
  pub count : length job.shots < 2 ^ 32
  pub shots : All (IsShot job.graph) job.shots
  pub even : All (λ shot. IsFirstOdd (problem_of job.graph shot) None) job.shots

-- A node's sub-problem is a part of the whole.
abbrev pub NodeIsPart : Type 0
NodeIsPart = (g : DecodingGraph) (t : PlanTree) (n : ℕ) (shot : ShotValue)
    → IsPart (problem_at g t n shot) (problem_of g shot)

-- If a shot's problem has no odd component, no sub-problem of a plan has a closed set with an odd number of defects.
abbrev pub NodeHasNoOddClosed : Type 0
NodeHasNoOddClosed = (g : DecodingGraph) (t : PlanTree) (n : ℕ) (shot : ShotValue)
    → IsFirstOdd (problem_of g shot) None → HasNoOddClosed (problem_at g t n shot)

-- That holds with the weights of the shot and its shifted defects too.
abbrev pub ShotHasNoOddClosed : Type 0
ShotHasNoOddClosed = (g : DecodingGraph) (t : PlanTree) (n : ℕ) (shot : ShotValue) → IsGraph g → IsShot g shot
    → IsFirstOdd (problem_of g shot) None → HasNoOddClosed (problem_at (shot_graph g shot) t n (shifted_shot g shot))

-- A child's sub-problem is a part of its parent's.
abbrev pub ChildIsPart : Type 0
ChildIsPart = (g : DecodingGraph) (t : PlanTree) (n left right : ℕ) (shot : ShotValue) → IsPlan g t
    → children_of t n ≡ Some (left, right)
    → IsPart (problem_at g t left shot) (problem_at g t n shot)
    × IsPart (problem_at g t right shot) (problem_at g t n shot)

-- The sub-problems of two children share no real vertex, and no edge links them.
abbrev pub ChildrenAreSeparated : Type 0
ChildrenAreSeparated = (g : DecodingGraph) (t : PlanTree) (n left right : ℕ) (shot : ShotValue) → IsPlan g t
    → children_of t n ≡ Some (left, right)
    → AreSeparated (problem_at g t left shot) (problem_at g t right shot)

-- At the root all is real that is real in the graph.
abbrev pub RootIsWhole : Type 0
RootIsWhole = (g : DecodingGraph) (t : PlanTree) (v : ℕ) (shot : ShotValue) → IsPlan g t
    → (problem_at g t (root_of t) shot).is_real v ≡ (problem_of g shot).is_real v

-- The nodes are one fewer than twice the units.
abbrev pub CountOfNodes : Type 0
CountOfNodes = (t : PlanTree) → IsTree t → node_count t + 1 ≡ t.units + t.units

-- Each node but the root has a parent, which comes after it; the root has none.
abbrev pub OneParent : Type 0
OneParent = (t : PlanTree) → IsTree t
    → (parent_of t (root_of t) ≡ None)
    × ((n : ℕ) → n < root_of t → (m : ℕ) × (parent_of t n ≡ Some m) × (n < m) × (m < node_count t))

-- Every node is the root or below it.
abbrev pub AllBelowRoot : Type 0
AllBelowRoot = (t : PlanTree) → IsTree t → (n : ℕ) → n < node_count t → is_within t (root_of t) n ≡ true

-- What lies within a node that lies within another lies within that too.
abbrev pub Nesting : Type 0
Nesting = (t : PlanTree) → IsTree t → (a b n : ℕ) → is_within t a b ≡ true → is_within t b n ≡ true
    → is_within t a n ≡ true

-- Of two nodes that a third one lies within, one lies within the other.
abbrev pub Ancestors : Type 0
Ancestors = (t : PlanTree) → IsTree t → (a b n : ℕ) → is_within t a n ≡ true → is_within t b n ≡ true
    → (is_within t a b ≡ true) ⊎ (is_within t b a ≡ true)

-- A plan of a graph is one of the graph with the weights of any shot.
abbrev pub PlanOfShotGraph : Type 0
PlanOfShotGraph = (g : DecodingGraph) (t : PlanTree) (shot : ShotValue) → IsPlan g t → IsPlan (shot_graph g shot) t
