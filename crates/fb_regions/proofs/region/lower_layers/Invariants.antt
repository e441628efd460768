use Rattle.std.proofs.Common.{◌≡◌, ◌++◌, take, drop}
use Rattle.fb_regions.specs.InternalNodes.{stack}
use Rattle.fb_regions.proofs.region.lower_layers.Given as goal

abbrev pub invariant-loop-v : goal.invariant-loop-v
invariant-loop-v l =
    (l.set.items ≡ l.initial.set.items ++ take l.v-index l.vertices)
    × (l.layers.items ++ stack l.marks l.set.items (drop l.v-index l.vertices) ≡ stack l.marks l.initial.set.items l.vertices)
