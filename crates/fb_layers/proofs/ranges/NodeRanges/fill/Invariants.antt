use Rattle.std.proofs.Common.{◌≡◌, length}
use Rattle.fb_layers.specs.InternalCovers.{HoldOwned, all_ranges, owners_by}
use Rattle.fb_layers.proofs.ranges.NodeRanges.fill.Given as goal

abbrev pub invariant-loop-v : goal.invariant-loop-v
invariant-loop-v l = record {
  joins : l.self.joins ≡ l.initial.self.joins;
  units : length l.self.units ≡ length l.initial.self.units;
  seams : length l.self.seams ≡ length l.initial.self.seams;
  hold : HoldOwned (length l.layers) l.v (owners_by l.nodes l.layers) (all_ranges l.self);
}
