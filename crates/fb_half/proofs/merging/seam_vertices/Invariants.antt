use Rattle.std.proofs.Common.{◌≡◌, take}
use Rattle.std.specs.List.{filter}
use Rattle.fb_half.specs.Merged.{is_owned_by}
use Rattle.fb_half.proofs.merging.seam_vertices.Given as goal

abbrev pub invariant-loop-v : goal.invariant-loop-v
invariant-loop-v l = l.own ≡ filter (is_owned_by l.plan l.node) (take l.v-index l.reached)
