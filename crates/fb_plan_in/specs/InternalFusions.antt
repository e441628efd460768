-- The fusions that the joins of the code are.
use Rattle.fb_plan.specs.declared.parts.Join.{Join}
use Rattle.fb_plan_in.specs.PlanText.{Fusion}

-- the fusion that a join is
abbrev pub fusion_from : Join → Fusion
fusion_from join = record { left = join.left; right = join.right; seam = join.seam.items }
