use Rattle.std.proofs.Common.{ℕ, ◌≡◌, ◌+◌, ◌<◌, length, get_or}
use Rattle.fb_plan.specs.InternalLayout.{size_of, tree_of}
use Rattle.fb_plan.proofs.tree.sizes_of.Given as goal

abbrev pub invariant-loop-join : goal.invariant-loop-join
invariant-loop-join l =
    (length l.sizes.items ≡ l.units + l.join-index)
    × ((n : ℕ) → n < l.units + l.join-index → get_or l.sizes.items n 0 ≡ size_of (tree_of l.units l.joins) n)
