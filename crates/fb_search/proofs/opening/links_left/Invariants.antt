use Rattle.std.proofs.Common.{◌≡◌, ◌-◌, ◌≤◌, ◌∷◌, ◌++◌, length, drop}
use Rattle.fb_search.specs.InternalOpenings.{between_on}
use Rattle.fb_search.proofs.opening.links_left.Given as goal

abbrev pub invariant-loop-i : goal.invariant-loop-i
invariant-loop-i l = (l.i ≤ length l.steps) × (l.first ∷ between_on l.steps ≡ l.links.items ++ between_on (drop l.i l.steps))

abbrev pub decreases-loop-i : goal.decreases-loop-i
decreases-loop-i l = length l.steps - l.i
