use Rattle.std.proofs.Common.{◌-◌, ◌≡◌, ◌≤◌, true, length, take}
use Rattle.std.specs.List.{list_all}
use Rattle.fb_shots_stim.specs.Text01.{is_bit}
use Rattle.fb_shots_stim.proofs.dense.leading_bits_of.Given as goal

abbrev pub invariant-loop-i : goal.invariant-loop-i
invariant-loop-i l = (l.i ≤ length l.word) × (list_all is_bit (take l.i l.word) ≡ true)

abbrev pub decreases-loop-i : goal.decreases-loop-i
decreases-loop-i l = length l.word - l.i
