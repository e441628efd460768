use Rattle.std.proofs.Common.{◌≡◌, ◌++◌, length, reverse}
use Rattle.fb_links.specs.Names.{name_by}
use Rattle.fb_regions.specs.InternalMerged.{renamed_regions}
use Rattle.fb_regions.specs.InternalPlaces.{IsIndex}
use Rattle.fb_regions.proofs.merging.take_nodes.Given as goal

abbrev pub invariant-loop-region : goal.invariant-loop-region
invariant-loop-region l =
    (l.regions.items ++ renamed_regions (name_by l.nodes) (reverse l.others.items)
    ≡ l.fn.regions.items ++ renamed_regions (name_by l.nodes) l.fn.others.items)
    × IsIndex l.regions.items l.places.items

abbrev pub decreases-loop-region : goal.decreases-loop-region
decreases-loop-region l = length l.others.items
