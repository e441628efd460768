use Rattle.fb_obstacles.proofs.WatchSteps.{entered_on}
use Rattle.fb_obstacles.proofs.entering.enter_all.Goals as goal

pub loop-edge-preserved : goal.loop-edge-preserved
loop-edge-preserved c =
    entered_on c.args.edges.now c.loop-edge.edge-index c.args.watch.now c.loop-edge.watch c.enter.new.self
    c.loop-edge-test.true c.enter.ensures.count c.enter.ensures.edges c.enter.ensures.bounds c.enter.ensures.nodes c.loop-edge.invariant
