use Rattle.std.proofs.Common.{◌≡◌, map}
use Rattle.std.specs.List.{range_with_len}
use Rattle.fb_plan.specs.InternalLayout.{given_owner}
use Rattle.fb_plan.proofs.owners.owned_by.Given as goal

abbrev pub invariant-loop-v : goal.invariant-loop-v
invariant-loop-v l = l.owners.items ≡ map (given_owner l.graph l.nodes) (range_with_len 0 l.v)
