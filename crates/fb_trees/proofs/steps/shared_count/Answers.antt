use Rattle.fb_trees.proofs.StepLists.{common_all}
use Rattle.fb_trees.proofs.steps.shared_count.Goals as goal

pub returns-clause-count : goal.returns-clause-count
returns-clause-count c =
    common_all c.args.up.now c.args.down.now c.loop-i.i c.min-shorter.result c.min-shorter.ensures c.loop-i-test.false
    c.loop-i.auto.i-end c.loop-i.invariant
