use Rattle.std.proofs.Common.{◌≡◌, map, drop}
use Rattle.serde_json.specs.View.{items_view}
use Rattle.fb_json.specs.JsonText.{onto, entries_by}
use Rattle.fb_predict.specs.declared.faults.ObsFault.TheVariants.{NotWhole}
use Rattle.fb_predict.specs.ObservableText.{edges_of}
use Rattle.fb_predict.proofs.entries.lists.Given as goal

-- the entries so far, and the rest
abbrev pub invariant-loop-i : goal.invariant-loop-i
invariant-loop-i l = entries_by edges_of NotWhole 0 (items_view l.values)
    ≡ onto (map (λ u. u.items) l.found.items) (entries_by edges_of NotWhole l.i (items_view (drop l.i l.values)))
