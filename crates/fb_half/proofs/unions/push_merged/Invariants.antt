use Rattle.std.proofs.Common.{◌≤◌, ◌-◌, ◌+◌, ◌++◌, drop, length}
use Rattle.fb_half.specs.InternalUnions.{AreMerging}
use Rattle.fb_half.proofs.unions.push_merged.Given as goal

abbrev pub invariant-loop-i : goal.invariant-loop-i
invariant-loop-i l =
    (l.i ≤ length l.first)
    × (l.j ≤ length l.second)
    × AreMerging (l.initial.all.items ++ l.first) l.second l.all.items (drop l.i l.first) (drop l.j l.second)

abbrev pub decreases-loop-i : goal.decreases-loop-i
decreases-loop-i l = (length l.first - l.i) + (length l.second - l.j)
