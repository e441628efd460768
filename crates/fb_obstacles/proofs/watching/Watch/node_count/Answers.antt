use Rattle.std.proofs.Common.{◌∙◌}
use Rattle.fb_obstacles.proofs.NodeBounds.{count_bounds}
use Rattle.fb_obstacles.proofs.watching.Watch.node_count.Goals as goal

pub returns : goal.returns
returns c = rw (← c.self.view_is) (c.len.ensures ∙ count_bounds c.self.inside.nodes c.self.inside.lowered)
