use Rattle.std.proofs.Common.{ℕ, ◌≡◌, ◌<◌, ◌&&◌, ◌==◌, false, get_or}
use Rattle.fb_graph.specs.Limits.{is_real_in}
use Rattle.fb_plan.proofs.judging.first_unowned.Given as goal

abbrev pub invariant-loop-v : goal.invariant-loop-v
invariant-loop-v l = (k : ℕ) → k < l.v → (is_real_in l.graph k && get_or l.counts k 0 == 0) ≡ false
