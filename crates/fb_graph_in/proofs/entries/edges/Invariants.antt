use Rattle.std.proofs.Common.{◌≡◌, drop}
use Rattle.serde_json.specs.View.{items_view}
use Rattle.fb_graph_in.specs.GraphText.{edge_of, entries_of}
use Rattle.fb_json.specs.JsonText.{onto}
use Rattle.fb_graph_in.specs.declared.faults.Place.TheVariants as place
use Rattle.fb_graph_in.proofs.entries.edges.Given as goal

-- the entries so far, and the rest
abbrev pub invariant-loop-i : goal.invariant-loop-i
invariant-loop-i l = entries_of edge_of place.Edge 0 (items_view l.values)
    ≡ onto l.found.items (entries_of edge_of place.Edge l.i (items_view (drop l.i l.values)))
