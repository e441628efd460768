use Rattle.std.proofs.Common.{ℕ, ◌≡◌, ◌+◌, ◌<◌, None, length, take, get_or}
use Rattle.fb_plan.specs.Plans.{parent_from}
use Rattle.fb_plan.proofs.tree.parents_of.Given as goal

abbrev pub invariant-loop-i : goal.invariant-loop-i
invariant-loop-i l =
    (length l.parents.items ≡ l.units + length l.joins)
    × ((n : ℕ) → n < l.units + length l.joins → get_or l.parents.items n None ≡ parent_from l.units (take l.i l.joins) n)
