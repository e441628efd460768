use Rattle.std.proofs.Common.{◌≡◌, ◌++◌, false, map, take, All}
use Rattle.std.specs.List.{list_any}
use Rattle.fb_plan.specs.InternalLoads.{IsClaim}
use Rattle.fb_plan.specs.Rules.{claim_of, is_bad_range}
use Rattle.fb_plan.proofs.claims.add_ranges.Given as goal

abbrev pub invariant-loop-range : goal.invariant-loop-range
invariant-loop-range l =
    (l.claims.items ≡ l.fn.claims.items ++ map (claim_of l.node) (take l.range-index l.ranges))
    × All (IsClaim l.vertices) l.claims.items
    × (list_any (is_bad_range l.vertices) (take l.range-index l.ranges) ≡ false)
