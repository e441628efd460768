use Rattle.std.proofs.Common.{◌≡◌, ◌++◌, count_by, drop, length}
use Rattle.fb_run.specs.InternalBusy.{rows_in_places}
use Rattle.fb_run.proofs.busy.join_rows.Given as goal

abbrev pub invariant-loop-busy : goal.invariant-loop-busy
invariant-loop-busy l = record {
  rows : l.rows.items ++ rows_in_places (drop l.busy-index l.is_busy) l.rest.rest.items
      ≡ rows_in_places l.is_busy l.initial.rest.rest.items;
  left : length l.rest.rest.items ≡ count_by (λ b. b) (drop l.busy-index l.is_busy);
}
