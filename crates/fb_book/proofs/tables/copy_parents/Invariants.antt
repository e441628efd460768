use Rattle.std.proofs.Common.{◌≡◌, ℕ, ◌<◌, None, length, get_or}
use Rattle.fb_plan.specs.Plans.{parent_of}
use Rattle.fb_book.proofs.tables.copy_parents.Given as goal

abbrev pub invariant-loop-node : goal.invariant-loop-node
invariant-loop-node l =
    (length l.parents.items ≡ l.node) × ((n : ℕ) → n < l.node → get_or l.parents.items n None ≡ parent_of l.plan n)
