use Rattle.std.proofs.Common.{◌≤◌, ◌-◌, ◌+◌, drop, length, vec_capacity}
use Rattle.fb_half.specs.InternalDifferences.{AreCancelling}
use Rattle.fb_half.proofs.differences.merged_odd.Given as goal

abbrev pub invariant-loop-i : goal.invariant-loop-i
invariant-loop-i l =
    (l.i ≤ length l.first)
    × (l.j ≤ length l.second)
    × AreCancelling l.first l.second l.odd.items (drop l.i l.first) (drop l.j l.second)
    × (length l.odd.items ≤ l.i + l.j)
    × (length l.first + length l.second ≤ vec_capacity l.odd)

abbrev pub decreases-loop-i : goal.decreases-loop-i
decreases-loop-i l = (length l.first - l.i) + (length l.second - l.j)
