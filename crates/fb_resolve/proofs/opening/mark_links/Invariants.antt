use Rattle.std.proofs.Common.{ℕ, ◌≡◌, ◌||◌, take}
use Rattle.fb_resolve.specs.Openings.{is_reached}
use Rattle.fb_resolve.specs.InternalMarks.{AreClosed, IsInside, is_marked}
use Rattle.fb_resolve.proofs.opening.mark_links.Given as goal

abbrev pub invariant-loop-id : goal.invariant-loop-id
invariant-loop-id l = AreClosed l.blossoms l.marks
    × ((x : ℕ) → IsInside l.blossoms x
    → is_marked l.marks x ≡ (is_marked l.fn.marks x || is_reached l.links l.blossoms (take l.id-index l.ids) x))
