use Rattle.std.proofs.Common.{◌≡◌, map, take}
use Rattle.fb_regions.specs.InternalNodes.{reparented_region}
use Rattle.fb_regions.proofs.region.adopt.Given as goal

abbrev pub invariant-loop-name : goal.invariant-loop-name
invariant-loop-name l = l.regions ≡ map (reparented_region (take l.name-index l.names) l.parent) l.initial.regions
