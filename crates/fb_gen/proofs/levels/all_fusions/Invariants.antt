use Rattle.std.proofs.Common.{◌≡◌, ◌≤◌, ◌+◌, ◌-◌, ◌++◌, length}
use Rattle.fb_gen.specs.TimePlan.{fusions_from, first_level}
use Rattle.fb_gen.proofs.levels.all_fusions.Given as goal

-- the fusions so far, and those of the levels to come
abbrev pub invariant-loop-turn : goal.invariant-loop-turn
invariant-loop-turn l =
    (length l.fusions.items + length l.level.items ≤ l.units)
    × (fusions_from l.units l.units (first_level l.units)
    ≡ l.fusions.items ++ fusions_from (l.units - l.turn) (l.units + length l.fusions.items) l.level.items)
