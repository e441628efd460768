use Rattle.std.proofs.Common.{◌≡◌, drop}
use Rattle.serde_json.specs.View.{items_view}
use Rattle.fb_plan_in.specs.PlanText.{pairs_of, after}
use Rattle.fb_plan_in.proofs.entries.pairs.Given as goal

-- the pairs so far, and the rest
abbrev pub invariant-loop-i : goal.invariant-loop-i
invariant-loop-i l = pairs_of (items_view l.values) ≡ after l.found.items (pairs_of (items_view (drop l.i l.values)))
