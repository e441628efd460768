use Rattle.std.proofs.Common.{ℕ, ◌≡◌, length, take, None, if◌then◌else◌}
use Rattle.fb_regions.specs.InternalPlaces.{place_in}
use Rattle.fb_trees.specs.Branches.{entries_of}
use Rattle.fb_trees.specs.InternalPlaces.{has_branch}
use Rattle.fb_trees.proofs.places.take_out_all.Given as goal

abbrev pub invariant-loop-branch : goal.invariant-loop-branch
invariant-loop-branch l =
    ((name : ℕ) → place_in l.places.items name
    ≡ (if has_branch (entries_of (take l.branch-index l.branches)) name then None else place_in l.initial.places.items name))
    × (length l.places.items ≡ length l.initial.places.items)
