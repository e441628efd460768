use Rattle.std.proofs.Common.{◌≡◌, ℕ, take}
use Rattle.slab.specs.Slab.{HasRoomFor, get}
use Rattle.fb_blossoms.specs.InternalForest.{reparented_item}
use Rattle.fb_blossoms.proofs.forest.put_under.Given as goal

abbrev pub invariant-loop-place : goal.invariant-loop-place
invariant-loop-place l =
    ((x : ℕ) → get l.nodes x ≡ reparented_item (take l.place l.cycle) l.parent x (get l.fn.nodes x))
    × (HasRoomFor l.fn.nodes 1 → HasRoomFor l.nodes 1)
    × (l.nodes.vacant_key ≡ l.fn.nodes.vacant_key)
