use Rattle.std.proofs.Common.{◌≡◌, drop}
use Rattle.serde_json.specs.View.{items_view}
use Rattle.fb_json.specs.JsonText.{natural_of}
use Rattle.fb_shots_json.specs.TextJson.{each_of, onto}
use Rattle.fb_shots_json.proofs.entries.naturals.Given as goal

-- the entries so far, and the rest
abbrev pub invariant-loop-value : goal.invariant-loop-value
invariant-loop-value l = each_of natural_of (items_view l.values) ≡ onto l.found.items (each_of natural_of (items_view (drop l.value-index l.values)))
