use Rattle.std.proofs.Common.{◌≡◌, map, drop}
use Rattle.serde_json.specs.View.{items_view}
use Rattle.fb_plan.specs.declared.faults.PlanPlace.TheVariants as place
use Rattle.fb_json.specs.JsonText.{onto}
use Rattle.fb_plan_in.specs.PlanText.{ranges_of, entries_of}
use Rattle.fb_plan_in.proofs.entries.units.Given as goal

-- the entries so far, and the rest
abbrev pub invariant-loop-i : goal.invariant-loop-i
invariant-loop-i l = entries_of ranges_of place.Unit 0 (items_view l.values)
    ≡ onto (map (λ u. u.items) l.found.items) (entries_of ranges_of place.Unit l.i (items_view (drop l.i l.values)))
