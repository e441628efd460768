use Rattle.std.proofs.Common.{ℕ, ◌-◌, reverse}
use Rattle.fb_blossoms.specs.InternalForest.{Climbs, LeadsDownTo, made_at}
use Rattle.fb_blossoms.proofs.forest.way_down.Given as goal

abbrev pub invariant-loop-at : goal.invariant-loop-at
invariant-loop-at l = LeadsDownTo l.nodes.slots l.at l.leaf (reverse l.way.items) × ((k : ℕ) × Climbs l.nodes.slots k l.at l.node)

abbrev pub decreases-loop-at : goal.decreases-loop-at
decreases-loop-at l = l.made - made_at l.nodes.slots l.at
