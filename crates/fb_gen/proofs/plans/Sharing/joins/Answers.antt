use Rattle.std.proofs.Common.{arith}
use Rattle.fb_gen.specs.InternalSharing.{plain_join, join_of}
use Rattle.fb_gen.proofs.Rounds.{pushed_after}
use Rattle.fb_gen.proofs.plans.Sharing.joins.Goals as goal

pub loop-fusion-preserved : goal.loop-fusion-preserved
loop-fusion-preserved c =
    pushed_after plain_join (join_of c.args.self.distance c.args.self.rounds c.args.self.units) c.args.fusions.now
    c.loop-fusion.fusion-index _ (omega arith) c.loop-fusion.found.items c.push.new.self.items c.in_ok-join.join
    c.in_ok-push.ensures.items c.loop-fusion.invariant c.in_ok-join.ensures
