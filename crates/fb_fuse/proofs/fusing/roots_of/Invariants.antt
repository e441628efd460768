use Rattle.std.proofs.Common.{◌≡◌, map, take}
use Rattle.fb_fuse.proofs.fusing.roots_of.Given as goal

abbrev pub invariant-loop-node : goal.invariant-loop-node
invariant-loop-node l = map (λ r. r.node) l.found.items ≡ take l.node-index l.work.matching.unmatched

abbrev pub invariant-loop-root : goal.invariant-loop-root
invariant-loop-root l = l.roots.items ≡ map (λ r. r.node) (take l.root-index l.root-items)
