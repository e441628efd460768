use Rattle.std.proofs.Common.{◌≡◌, ◌-◌, ◌++◌, reverse}
use Rattle.fb_regions.specs.InternalNodes.{chain}
use Rattle.fb_regions.proofs.region.read_back.Given as goal

abbrev pub invariant-loop : goal.invariant-loop
invariant-loop l = chain l.marks (l.count - l.counter) l.at ++ reverse l.vertices.items ≡ chain l.marks l.count l.last
