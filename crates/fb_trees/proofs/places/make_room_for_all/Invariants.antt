use Rattle.std.proofs.Common.{◌≡◌, ℕ, All, length, take}
use Rattle.fb_trees.specs.InternalPlaces.{IsWithin}
use Rattle.fb_trees.proofs.places.make_room_for_all.Given as goal
use Rattle.fb_regions.specs.InternalPlaces.{place_in}

abbrev pub invariant-loop-branch : goal.invariant-loop-branch
invariant-loop-branch l =
    ((name : ℕ) → place_in l.places.items name ≡ place_in l.initial.places.items name)
    × All (IsWithin (length l.places.items)) (take l.branch-index l.branches)
