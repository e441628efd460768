use Rattle.std.proofs.Common.{◌≡◌, drop, map}
use Rattle.std.specs.List.{All}
use Rattle.fb_graph.specs.Certificate.{AreDistinct}
use Rattle.fb_regions.specs.InternalHeads.{IsInTime, link_under, relinked_all}
use Rattle.fb_regions.specs.InternalPlaces.{IsIndex}
use Rattle.fb_regions.proofs.heads.relink.Given as goal

abbrev pub invariant-loop-name : goal.invariant-loop-name
invariant-loop-name l =
    (relinked_all (link_under l.clock l.joint) (drop l.name-index l.names) l.regions
    ≡ relinked_all (link_under l.clock l.joint) l.names l.initial.regions)
    × IsIndex l.regions l.places
    × AreDistinct (map (λ r. r.name) l.regions)
    × All (IsInTime l.clock) l.regions
