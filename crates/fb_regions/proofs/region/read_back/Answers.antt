use Rattle.std.proofs.Common.{◌∙◌}
use Rattle.fb_regions.proofs.Chains.{chain_back}
use Rattle.fb_regions.proofs.region.read_back.Goals as goal

pub loop-preserved : goal.loop-preserved
loop-preserved c =
    rw (c.in_ok-push.ensures.items, c.before-at.ensures)
    (chain_back c.args.marks.now c.args.count c.loop.counter c.loop.at c.loop.vertices.items c.loop-test.true ∙ c.loop.invariant)
