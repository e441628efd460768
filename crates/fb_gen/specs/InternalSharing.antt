-- How rounds are shared among units, and the joins that are built of fusions.
use Rattle.std.specs.Prelude.{ℕ, ◌+◌, ◌*◌, ◌≤◌, List, [], ◌∷◌}
use Rattle.fb_plan.specs.Plans.{most_units}
use Rattle.fb_plan.specs.declared.parts.Join.{Join}
use Rattle.fb_gen.specs.declared.levels.Fusion.{Fusion}
use Rattle.fb_gen.specs.TimePlan.{seam_range}

-- a join without its memory: its two nodes and the ranges of its seam
abbrev pub plain_join : Join → ℕ × ℕ × List (ℕ × ℕ)
plain_join join = (join.left, join.right, join.seam.items)

-- the join that a fusion asks for
abbrev pub join_of : ℕ → ℕ → ℕ → Fusion → ℕ × ℕ × List (ℕ × ℕ)
join_of distance rounds units f = (f.left, f.right, seam_range distance rounds units f.seam ∷ [])

-- rounds enough for units within the limit of a plan
pub record IsShared (rounds units : ℕ) : Type 0 where
  pub positive : 1 ≤ units
  pub limit : units ≤ most_units
  pub enough : 2 * units ≤ rounds + 1
