use Rattle.std.proofs.Common.{◌-◌, ℕ, suc}
use Rattle.fb_blossoms.specs.InternalForest.{Climbs, made_at}
use Rattle.fb_blossoms.proofs.forest.child_over.Given as goal

abbrev pub invariant-loop-parent : goal.invariant-loop-parent
invariant-loop-parent l =
    ((k : ℕ) × Climbs l.nodes.slots k l.leaf l.child) × ((k : ℕ) × Climbs l.nodes.slots (suc k) l.child l.node)

abbrev pub decreases-loop-parent : goal.decreases-loop-parent
decreases-loop-parent l = l.made - made_at l.nodes.slots l.child
