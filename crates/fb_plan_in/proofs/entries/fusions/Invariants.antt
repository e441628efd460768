use Rattle.std.proofs.Common.{◌≡◌, map, drop}
use Rattle.serde_json.specs.View.{items_view}
use Rattle.fb_plan.specs.declared.faults.PlanPlace.TheVariants as place
use Rattle.fb_json.specs.JsonText.{onto}
use Rattle.fb_plan_in.specs.PlanText.{fusion_of, entries_of}
use Rattle.fb_plan_in.specs.InternalFusions.{fusion_from}
use Rattle.fb_plan_in.proofs.entries.fusions.Given as goal

-- the entries so far, and the rest
abbrev pub invariant-loop-i : goal.invariant-loop-i
invariant-loop-i l = entries_of fusion_of place.Fusion 0 (items_view l.values)
    ≡ onto (map fusion_from l.found.items) (entries_of fusion_of place.Fusion l.i (items_view (drop l.i l.values)))
