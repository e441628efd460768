use Rattle.std.proofs.Common.{◌≡◌, map}
use Rattle.std.specs.List.{range_with_len}
use Rattle.fb_plan.specs.Plans.{real_owner}
use Rattle.fb_plan.proofs.owners.owned_by_one.Given as goal

abbrev pub invariant-loop-v : goal.invariant-loop-v
invariant-loop-v l = l.owners.items ≡ map (real_owner l.graph 0) (range_with_len 0 l.v)
