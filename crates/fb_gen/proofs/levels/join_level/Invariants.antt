use Rattle.std.proofs.Common.{◌≡◌, ◌≤◌, ◌+◌, ◌-◌, ◌++◌, drop, length}
use Rattle.fb_gen.specs.TimePlan.{fusions_of_level, level_above}
use Rattle.fb_gen.proofs.levels.join_level.Given as goal

-- what has been made, and what the rest of the level gives
abbrev pub invariant-loop-i : goal.invariant-loop-i
invariant-loop-i l =
    (l.i ≤ length l.level)
    × (l.node ≤ l.next + l.i)
    × (l.fusions.items ++ fusions_of_level (drop l.i l.level) ≡ l.initial.fusions.items ++ fusions_of_level l.level)
    × (l.above.items ++ level_above l.node (drop l.i l.level) ≡ level_above l.next l.level)

abbrev pub decreases-loop-i : goal.decreases-loop-i
decreases-loop-i l = length l.level - l.i
