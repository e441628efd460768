use Rattle.std.proofs.Common.{◌-◌, ◌≡◌, ◌≤◌, true, take}
use Rattle.std.specs.List.{list_all}
use Rattle.fb_shots_stim.specs.Text01.{is_bit}
use Rattle.fb_shots_stim.proofs.dense.leading_bits.Given as goal

abbrev pub invariant-loop-i : goal.invariant-loop-i
invariant-loop-i l = (l.i ≤ l.end) × (list_all is_bit (take l.i l.bytes) ≡ true)

abbrev pub decreases-loop-i : goal.decreases-loop-i
decreases-loop-i l = l.end - l.i
