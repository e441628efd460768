use Rattle.std.proofs.Common.{◌<◌, ◌+◌, length, refl, arith}
use Rattle.fb_trees.proofs.Opening.{along_step}
use Rattle.fb_trees.proofs.changes.push_opened.Goals as goal

pub loop-i-preserved : goal.loop-i-preserved
loop-i-preserved c =
    let below : c.loop-i.i + 2 < length c.args.path.now = omega arith in (
      below,
      omega arith,
      along_step c.args.path.now c.loop-i.i _ below c.args.branch.now.matched c.args.branch.now.plus c.loop-i.opened.items
          c.push.new.self.items _ c.in_ok-push.ensures.items refl refl refl _ c.loop-i.invariant.2,
    )
