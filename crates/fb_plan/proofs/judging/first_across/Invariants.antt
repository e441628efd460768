use Rattle.std.proofs.Common.{ℕ, ◌≡◌, ◌<◌, false}
use Rattle.fb_graph.specs.Problem.{edge_at}
use Rattle.fb_plan.specs.Plans.{goes_across}
use Rattle.fb_plan.proofs.judging.first_across.Given as goal

abbrev pub invariant-loop-e : goal.invariant-loop-e
invariant-loop-e l = (k : ℕ) → k < l.e → goes_across l.plan (edge_at l.graph.edges k) ≡ false
