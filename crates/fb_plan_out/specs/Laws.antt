-- What follows from the definition of a plan's text.
use Rattle.std.specs.Prelude.{ℕ, ◌≡◌, ◌+◌, ◌<◌, Bool, List, length, get_or, All}
use Rattle.std.specs.List.{list_any}
use Rattle.fb_plan.specs.Plans.{PlanTree, owner_of}
use Rattle.fb_plan.specs.Vertices.{is_node}
use Rattle.fb_layers.specs.Runs.{is_held}
use Rattle.fb_plan_out.specs.PlanWriting.{ranges_at}

-- The ranges are the maximal runs of the numbers that pass the test, rising: they hold just these numbers, each has one at
-- least, and between two of them there is a number that doesn't pass.
pub record AreMaximalRuns (test : ℕ → Bool) (ranges : List (ℕ × ℕ)) : Type 0 where
  pub hold : (v : ℕ) → list_any (is_held v) ranges ≡ test v
  pub some : All (λ range. range.0 < range.1) ranges
  pub apart : (i : ℕ) → i + 1 < length ranges → (get_or ranges i (0, 0)).1 < (get_or ranges (i + 1) (0, 0)).0

-- A node's ranges are the maximal runs of the vertices that it owns.
abbrev pub RangesAreRuns : Type 0
RangesAreRuns = (t : PlanTree) (n : ℕ) → AreMaximalRuns (λ v. is_node n (owner_of t v)) (ranges_at t n)
