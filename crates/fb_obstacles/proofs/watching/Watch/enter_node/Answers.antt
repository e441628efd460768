use Rattle.std.proofs.Common.{◌*◌, refl}
use Rattle.fb_obstacles.proofs.NodeBounds.{bounds_kept, due_bound}
use Rattle.fb_obstacles.proofs.watching.Watch.enter_node.Goals as goal

pub returns-clause-ok : goal.returns-clause-ok
returns-clause-ok c =
    rw (← c.self.view_is) (record {
      same = refl;
      entered = due_bound c.add.new.self c.self.inside.lowered c.growth_after.result c.args.node (2 * c.args.value)
          c.in_ok-add.ensures.added c.growth_after.ensures.most;
      kept = bounds_kept c.self.inside.nodes c.add.new.self c.self.inside.lowered c.in_ok-add.ensures.kept;
    })
