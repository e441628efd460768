use Rattle.std.proofs.Common.{◌-◌, arith}
use Rattle.fb_trees.proofs.StepLists.{up_step}
use Rattle.fb_trees.proofs.steps.push_up.Goals as goal

pub loop-i-preserved : goal.loop-i-preserved
loop-i-preserved c = (
  omega arith,
  up_step c.args.path.now c.loop-i.i (c.loop-i.i - 1) _ (omega arith) c.loop-i.invariant.0 _ _ _ _ c.loop-i.invariant.1
      c.in_ok-push_step.ensures c.in_ok-push_step-2.ensures,
)
