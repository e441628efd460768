use Rattle.std.proofs.Common.{ℕ, ◌≡◌, length, take, Some, if◌then◌else◌}
use Rattle.fb_regions.specs.InternalPlaces.{place_in}
use Rattle.fb_trees.specs.Branches.{entries_of}
use Rattle.fb_trees.specs.InternalPlaces.{has_branch}
use Rattle.fb_trees.proofs.places.enter_owner.Given as goal

abbrev pub invariant-loop-branch : goal.invariant-loop-branch
invariant-loop-branch l =
    ((name : ℕ) → place_in l.owners.items name
    ≡ (if has_branch (entries_of (take l.branch-index l.branches)) name then Some l.tree else place_in l.initial.owners.items name))
    × (length l.owners.items ≡ length l.initial.owners.items)
