-- The defect and the cycle of a stored shape.
use Rattle.std.specs.Prelude.{ℕ, List, [], ◌∷◌}
use Rattle.fb_links.specs.declared.cycle.CycleStep.{CycleStep}
use Rattle.fb_blossoms.specs.declared.entry.Shape.{Shape}
use Rattle.fb_blossoms.specs.declared.entry.Shape.TheVariants.{Leaf, Cycle}

abbrev pub own_of : Shape → List ℕ
own_of (Leaf defect) = defect ∷ []
own_of (Cycle cycle) = []

abbrev pub cycle_of : Shape → List CycleStep
cycle_of (Leaf defect) = []
cycle_of (Cycle cycle) = cycle.items
