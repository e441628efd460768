use Rattle.std.proofs.Common.{◌≡◌, ◌≤◌, ◌-◌, false, length}
use Rattle.fb_records.specs.Lines.{holds}
use Rattle.fb_records.specs.Steps.{part_of}
use Rattle.fb_shots_stim.proofs.parts.part_end.Given as goal

abbrev pub invariant-loop-i : goal.invariant-loop-i
invariant-loop-i l = record {
  onward : l.from ≤ l.i;
  within : l.i ≤ length l.bytes;
  in_line : holds 10 (part_of l.bytes l.from l.i) ≡ false;
  in_part : holds l.separator (part_of l.bytes l.from l.i) ≡ false;
}

abbrev pub decreases-loop-i : goal.decreases-loop-i
decreases-loop-i l = length l.bytes - l.i
