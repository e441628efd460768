use Rattle.std.proofs.Common.{◌≡◌, ◌-◌, ◌≤◌, ◌++◌, length, drop}
use Rattle.fb_search.specs.InternalEndings.{swapped_from}
use Rattle.fb_search.specs.InternalOpenings.{between_on}
use Rattle.fb_search.proofs.ending.swapped_along.Given as goal

abbrev pub invariant-loop-i : goal.invariant-loop-i
invariant-loop-i l =
    (l.i ≤ length l.path)
    × (swapped_from l.root l.path ≡ l.end.matches.items ++ swapped_from l.parent (drop l.i l.path))
    × (between_on l.path ≡ l.end.gone.items ++ between_on (drop l.i l.path))

abbrev pub decreases-loop-i : goal.decreases-loop-i
decreases-loop-i l = length l.path - l.i
