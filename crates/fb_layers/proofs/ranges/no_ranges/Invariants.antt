use Rattle.std.proofs.Common.{ℕ, ◌≡◌, [], length, map, get_or}
use Rattle.fb_layers.proofs.ranges.no_ranges.Given as goal

abbrev pub invariant-loop-n : goal.invariant-loop-n
invariant-loop-n l = (length l.lists.items ≡ l.n) × ((k : ℕ) → get_or (map (λ u. u.items) l.lists.items) k [] ≡ [])
