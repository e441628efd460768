use Rattle.std.proofs.Common.{◌≡◌, ◌≤◌, drop, length}
use Rattle.fb_resolve.specs.Openings.{opened_numbers}
use Rattle.fb_resolve.specs.InternalMarks.{AreClosed, AreMarks, HasPlaces}
use Rattle.fb_resolve.proofs.opening.opened.Given as goal

abbrev pub invariant-loop-i : goal.invariant-loop-i
invariant-loop-i l = (l.i ≤ length l.names)
    × HasPlaces l.blossoms (length l.marks.items)
    × AreClosed l.blossoms l.marks.items
    × AreMarks l.links l.blossoms l.ids.items l.marks.items
    × (l.ids.items ≡ opened_numbers l.links l.blossoms l.matches (drop l.i l.names))

abbrev pub decreases-loop-i : goal.decreases-loop-i
decreases-loop-i l = l.i
