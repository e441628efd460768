use Rattle.std.proofs.Common.{ℕ, ◌≡◌, ◌<◌, length, get_or}
use Rattle.fb_plan.specs.InternalLayout.{span_at}
use Rattle.fb_plan.proofs.tree.unplaced.Given as goal

abbrev pub invariant-loop-size : goal.invariant-loop-size
invariant-loop-size l =
    (length l.spans.items ≡ l.size-index)
    × ((n : ℕ) → n < l.size-index → span_at l.spans.items n ≡ record { start = 0; end = get_or l.sizes n 0 })
