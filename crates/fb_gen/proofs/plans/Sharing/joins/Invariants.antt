use Rattle.std.proofs.Common.{◌≡◌, map, take}
use Rattle.fb_gen.specs.InternalSharing.{plain_join, join_of}
use Rattle.fb_gen.proofs.plans.Sharing.joins.Given as goal

abbrev pub invariant-loop-fusion : goal.invariant-loop-fusion
invariant-loop-fusion l = map plain_join l.found.items
    ≡ map (join_of l.self.distance l.self.rounds l.self.units) (take l.fusion-index l.fusions)
