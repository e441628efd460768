use Rattle.fb_search.proofs.EndSteps.{live_still}
use Rattle.fb_search.proofs.ending.forget_all.Goals as goal

pub forget-requires : goal.forget-requires
forget-requires c =
    live_still c.args.gone.now c.loop-id.id-index 0 c.args.links.now c.loop-id.links c.loop-id.invariant c.requires.live
    c.requires.distinct c.loop-id-test.true
