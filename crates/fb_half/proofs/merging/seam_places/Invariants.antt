use Rattle.fb_half.proofs.SeamPlaces.{AreFound}
use Rattle.fb_half.specs.InternalSeams.{meets_seam}
use Rattle.fb_half.proofs.merging.seam_places.Given as goal
use Rattle.std.proofs.Common.{take}

abbrev pub invariant-loop-name : goal.invariant-loop-name
invariant-loop-name l =
    AreFound (meets_seam l.seam.plan.now l.seam.node l.links) l.matching.matches (take l.name-index l.listed) l.places.items
