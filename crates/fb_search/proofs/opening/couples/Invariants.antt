use Rattle.std.proofs.Common.{◌≡◌, ◌-◌, ◌≤◌, ◌++◌, length, drop}
use Rattle.fb_search.specs.InternalOpenings.{couples_on}
use Rattle.fb_search.proofs.opening.couples.Given as goal

abbrev pub invariant-loop-i : goal.invariant-loop-i
invariant-loop-i l = (l.i ≤ length l.steps) × (couples_on l.steps ≡ l.matches.items ++ couples_on (drop l.i l.steps))

abbrev pub decreases-loop-i : goal.decreases-loop-i
decreases-loop-i l = length l.steps - l.i
