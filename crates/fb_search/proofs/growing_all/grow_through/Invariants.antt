use Rattle.fb_search.specs.InternalGrowthRuns.{HasGrownFrom, growth_rank}
use Rattle.fb_search.proofs.growing_all.grow_through.Given as goal

abbrev pub invariant-loop-alloc : goal.invariant-loop-alloc
invariant-loop-alloc g l = HasGrownFrom l.fn.growing l.growing

abbrev pub decreases-loop-alloc : goal.decreases-loop-alloc
decreases-loop-alloc g l = growth_rank l.growing
