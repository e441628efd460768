use Rattle.std.proofs.Common.{◌≡◌, ◌+◌, drop, map}
use Rattle.fb_laws.specs.OpenedLinks.{place_of}
use Rattle.fb_resolve.specs.InternalMarks.{is_marked}
use Rattle.fb_resolve.proofs.opening.marked_place.Given as goal

abbrev pub invariant-loop-i : goal.invariant-loop-i
invariant-loop-i l =
    place_of (is_marked l.marks) (map (λ s. s.node) l.cycle) ≡ l.i + place_of (is_marked l.marks) (drop l.i (map (λ s. s.node) l.cycle))
