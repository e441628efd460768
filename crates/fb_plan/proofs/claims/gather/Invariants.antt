use Rattle.std.proofs.Common.{ℕ, ◌≡◌, ◌<◌, false, map, take, All}
use Rattle.fb_plan.specs.InternalLoads.{IsClaim}
use Rattle.fb_plan.specs.Rules.{claims_from, is_bad_node, ranges_of}
use Rattle.fb_plan.proofs.claims.gather.Given as goal

abbrev pub invariant-loop-node : goal.invariant-loop-node
invariant-loop-node l =
    (l.claims.items ≡ claims_from 0 (take l.node (ranges_of (map (λ u. u.items) l.units) l.fusions)))
    × All (IsClaim l.vertices) l.claims.items
    × ((k : ℕ) → k < l.node → is_bad_node l.vertices (ranges_of (map (λ u. u.items) l.units) l.fusions) k ≡ false)
