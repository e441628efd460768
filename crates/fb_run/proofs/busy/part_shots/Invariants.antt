use Rattle.std.proofs.Common.{◌≡◌, map, filter}
use Rattle.fb_run.specs.InternalBusy.{is_busy_for}
use Rattle.fb_run.proofs.busy.part_shots.Given as goal

abbrev pub invariant-loop-shot : goal.invariant-loop-shot
invariant-loop-shot l = record {
  busy : l.parted.busy.items ≡ filter (is_busy_for l.graph) l.yielded;
  each : l.parted.is_busy.items ≡ map (is_busy_for l.graph) l.yielded;
}
