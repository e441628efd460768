use Rattle.std.proofs.Common.{◌≡◌, ◌++◌, drop, length, count_by, is_none}
use Rattle.fb_crew.specs.InternalWindows.{rows_by}
use Rattle.fb_crew.proofs.sorting.join_rows.Given as goal

abbrev pub invariant-loop-vertex : goal.invariant-loop-vertex
invariant-loop-vertex l =
    (l.rows.items ++ rows_by (drop l.vertex-index l.odd) l.rest.rest.items ≡ rows_by l.odd l.initial.rest.rest.items)
    × (length l.rest.rest.items ≡ count_by is_none (drop l.vertex-index l.odd))
