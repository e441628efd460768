use Rattle.std.proofs.Common.{ℕ, ◌≡◌, ◌<◌, false}
use Rattle.fb_plan.specs.Rules.{is_out_of_range, joins_of}
use Rattle.fb_plan.proofs.judging.first_out_of_range.Given as goal

abbrev pub invariant-loop-i : goal.invariant-loop-i
invariant-loop-i l = (k : ℕ) → k < l.i → is_out_of_range l.units (joins_of l.fusions) k ≡ false
