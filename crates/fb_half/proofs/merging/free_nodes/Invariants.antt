use Rattle.std.proofs.Common.{take}
use Rattle.std.specs.List.{filter}
use Rattle.fb_half.specs.InternalSeams.{IsFreed, meets_seam}
use Rattle.fb_half.proofs.merging.free_nodes.Given as goal

abbrev pub invariant-loop-name : goal.invariant-loop-name
invariant-loop-name l =
    IsFreed (take l.name-index (filter (meets_seam l.seam.plan.now l.seam.node l.initial.links) l.initial.matching.matches)) l.initial.matching l.matching
    l.initial.links l.links
