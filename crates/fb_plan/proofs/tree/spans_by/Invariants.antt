use Rattle.std.proofs.Common.{◌≤◌, length}
use Rattle.fb_plan.specs.InternalLayout.{IsPlacedFrom, tree_of}
use Rattle.fb_plan.proofs.tree.spans_by.Given as goal

abbrev pub invariant-loop-i : goal.invariant-loop-i
invariant-loop-i l = (l.i ≤ length l.joins) × IsPlacedFrom (tree_of l.fn.units l.joins) l.spans.items l.i

abbrev pub decreases-loop-i : goal.decreases-loop-i
decreases-loop-i l = l.i
