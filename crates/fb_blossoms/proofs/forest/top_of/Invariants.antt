use Rattle.std.proofs.Common.{◌≡◌, ◌-◌, ℕ, true}
use Rattle.fb_blossoms.specs.InternalForest.{Climbs, is_kept, made_at}
use Rattle.fb_blossoms.proofs.forest.top_of.Given as goal

abbrev pub invariant-loop-parent : goal.invariant-loop-parent
invariant-loop-parent l =
    (is_kept l.nodes.slots l.top ≡ true) × ((k : ℕ) × Climbs l.nodes.slots k l.node l.top)

abbrev pub decreases-loop-parent : goal.decreases-loop-parent
decreases-loop-parent l = l.made - made_at l.nodes.slots l.top
