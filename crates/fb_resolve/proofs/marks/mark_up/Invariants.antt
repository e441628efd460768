use Rattle.std.proofs.Common.{length, sum_by}
use Rattle.fb_resolve.specs.InternalMarks.{HasPlaces}
use Rattle.fb_resolve.proofs.Marking.{IsGoingUp, unmarked}
use Rattle.fb_resolve.proofs.marks.mark_up.Given as goal

abbrev pub invariant-loop-next : goal.invariant-loop-next
invariant-loop-next l = HasPlaces l.blossoms (length l.marks) × IsGoingUp l.blossoms l.fn.marks l.marks l.node l.next

abbrev pub decreases-loop-next : goal.decreases-loop-next
decreases-loop-next l = sum_by unmarked l.marks
