use Rattle.std.proofs.Common.{◌≡◌, drop, length, take}
use Rattle.fb_half.specs.InternalSeams.{AddsSingles}
use Rattle.fb_regions.specs.Paces.{IsAtRest}
use Rattle.fb_half.proofs.merging.add_leaves.Given as goal

abbrev pub invariant-loop-v : goal.invariant-loop-v
invariant-loop-v l =
    AddsSingles (drop (length l.initial.matching.unmatched) l.matching.unmatched) (take l.v-index l.vertices) l.initial.regions.nodes l.regions.nodes
    l.initial.store l.store l.initial.matching l.matching
    × (l.regions.scope ≡ l.initial.regions.scope) × (IsAtRest l.initial.regions → IsAtRest l.regions)
