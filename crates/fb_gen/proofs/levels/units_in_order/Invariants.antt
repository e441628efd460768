use Rattle.std.proofs.Common.{◌≡◌}
use Rattle.fb_gen.specs.TimePlan.{first_level}
use Rattle.fb_gen.proofs.levels.units_in_order.Given as goal

abbrev pub invariant-loop-j : goal.invariant-loop-j
invariant-loop-j l = l.level.items ≡ first_level l.j
