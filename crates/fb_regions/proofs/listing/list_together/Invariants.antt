use Rattle.std.proofs.Common.{◌≡◌, ◌+◌, ◌≤◌, drop}
use Rattle.fb_regions.specs.InternalListings.{count_named, linked_all}
use Rattle.fb_regions.proofs.listing.list_together.Given as goal

abbrev pub invariant-loop-name : goal.invariant-loop-name
invariant-loop-name l =
    (linked_all l.regions l.names (record { marks = l.initial.marks; listing = record { first = 0; count = 0; last = 0 } })
    ≡ linked_all l.regions (drop l.name-index l.names) (record { marks = l.marks; listing = l.listing }))
    × (l.listing.count + count_named l.regions (drop l.name-index l.names) ≤ count_named l.regions l.names)
