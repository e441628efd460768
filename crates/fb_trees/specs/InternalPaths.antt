-- Steps down a path, and how long two paths stay together.
use Rattle.std.specs.Prelude.{ℕ, ◌+◌, ◌==◌, List, [], ◌∷◌, if◌then◌else◌}
use Rattle.fb_links.specs.declared.cycle.CycleStep.{CycleStep}
use Rattle.fb_laws.specs.Trees.{EntryOf}
use Rattle.fb_trees.specs.TreeSteps.{step}

-- Down branches that follow one another, from the node on which the first one hangs: each node with the link to its child, and the last
-- one with a further link.
abbrev pub steps_down : ℕ → List (EntryOf ℕ) → ℕ → List CycleStep
steps_down name [] closing = step name closing ∷ []
steps_down name (e ∷ es) closing = step name e.tree ∷ step e.minus e.matched ∷ steps_down e.plus es closing

-- the number of branches with which both begin
abbrev pub common_count : List (EntryOf ℕ) → List (EntryOf ℕ) → ℕ
common_count [] ys = 0
common_count (x ∷ xs) [] = 0
common_count (x ∷ xs) (y ∷ ys) = if x.minus == y.minus then 1 + common_count xs ys else 0
