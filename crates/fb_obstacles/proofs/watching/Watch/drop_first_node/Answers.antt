use Rattle.std.proofs.Common.{refl}
use Rattle.fb_obstacles.proofs.NodeBounds.{others_kept}
use Rattle.fb_obstacles.proofs.watching.Watch.drop_first_node.Goals as goal

pub returns-clause-same : goal.returns-clause-same
returns-clause-same c = rw (← c.self.view_is) refl

pub returns-clause-kept : goal.returns-clause-kept
returns-clause-kept c =
    rw (← c.self.view_is)
    (others_kept c.self.inside.nodes c.drop_first.new.self c.self.inside.lowered c.drop_first.ensures.kept)
