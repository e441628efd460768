-- The real vertices of a fusion's sub-problem: those of its two children, and the seam between them, which it owns (Wu
-- and Zhong 2023).
use Rattle.std.specs.Prelude.{ℕ, ◌≡◌, ◌<◌, ◌==◌, ◌&&◌, ◌||◌, Bool, true, false, Option, Some, None}
use Rattle.fb_graph.specs.Limits.{DecodingGraph, ShotValue, is_real_in}
use Rattle.fb_plan.specs.Plans.{PlanTree, IsPlan, children_of, owner_of, problem_at}

-- node n is the owner
abbrev pub is_owner : ℕ → Option ℕ → Bool
is_owner n None = false
is_owner n (Some m) = n == m

-- node n itself owns the real vertex: a fusion's seam, or what belongs to a unit
abbrev pub is_own : DecodingGraph → PlanTree → ℕ → ℕ → Bool
is_own g t n v = is_real_in g v && is_owner n (owner_of t v)

-- A unit's real vertices are its own.
abbrev pub UnitIsOwn : Type 0
UnitIsOwn = (g : DecodingGraph) (t : PlanTree) (n v : ℕ) (shot : ShotValue) → n < t.units
    → (problem_at g t n shot).is_real v ≡ is_own g t n v

-- A fusion's are those of its children and its own.
abbrev pub FusionIsParts : Type 0
FusionIsParts = (g : DecodingGraph) (t : PlanTree) (n left right v : ℕ) (shot : ShotValue) → IsPlan g t
    → children_of t n ≡ Some (left, right)
    → (problem_at g t n shot).is_real v
    ≡ ((problem_at g t left shot).is_real v || (problem_at g t right shot).is_real v || is_own g t n v)

-- Its own are real in neither child.
abbrev pub SeamIsApart : Type 0
SeamIsApart = (g : DecodingGraph) (t : PlanTree) (n left right v : ℕ) (shot : ShotValue) → IsPlan g t
    → children_of t n ≡ Some (left, right) → is_own g t n v ≡ true
    → ((problem_at g t left shot).is_real v ≡ false) × ((problem_at g t right shot).is_real v ≡ false)
