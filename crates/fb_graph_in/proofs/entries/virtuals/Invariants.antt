use Rattle.std.proofs.Common.{◌≡◌, drop}
use Rattle.serde_json.specs.View.{items_view}
use Rattle.fb_graph_in.specs.GraphText.{entries_of}
use Rattle.fb_json.specs.JsonText.{natural_of, onto}
use Rattle.fb_graph_in.specs.declared.faults.Place.TheVariants as place
use Rattle.fb_graph_in.proofs.entries.virtuals.Given as goal

-- the entries so far, and the rest
abbrev pub invariant-loop-i : goal.invariant-loop-i
invariant-loop-i l = entries_of natural_of place.Virtual 0 (items_view l.values)
    ≡ onto l.found.items (entries_of natural_of place.Virtual l.i (items_view (drop l.i l.values)))
