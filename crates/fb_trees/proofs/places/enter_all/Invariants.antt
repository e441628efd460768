use Rattle.std.proofs.Common.{ℕ, ◌≡◌, length, take}
use Rattle.fb_regions.specs.InternalPlaces.{place_in}
use Rattle.fb_trees.specs.Branches.{entries_of}
use Rattle.fb_trees.specs.InternalPlaces.{place_of, place_or}
use Rattle.fb_trees.proofs.places.enter_all.Given as goal

abbrev pub invariant-loop-at : goal.invariant-loop-at
invariant-loop-at l =
    ((name : ℕ) → place_in l.places.items name
    ≡ place_or (place_of (entries_of (take l.at l.branches)) name) (place_in l.initial.places.items name))
    × (length l.places.items ≡ length l.initial.places.items)
