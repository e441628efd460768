use Rattle.std.proofs.Common.{◌≡◌, ◌++◌, filter, take, drop}
use Rattle.fb_graph.specs.Printed.{is_positive}
use Rattle.fb_regions.specs.InternalNodes.{stack}
use Rattle.fb_regions.proofs.region.put_lower_cuts.Given as goal

abbrev pub invariant-loop-v : goal.invariant-loop-v
invariant-loop-v l =
    (l.set.items ≡ l.initial.set.items ++ take l.v-index l.vertices)
    × (l.cuts ++ filter is_positive (stack l.marks l.set.items (drop l.v-index l.vertices))
    ≡ l.initial.cuts ++ filter is_positive (stack l.marks l.initial.set.items l.vertices))
