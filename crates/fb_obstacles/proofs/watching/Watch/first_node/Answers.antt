use Rattle.fb_obstacles.proofs.NodeBounds.{node_first}
use Rattle.fb_obstacles.proofs.watching.Watch.first_node.Goals as goal

pub returns-clause-first : goal.returns-clause-first
returns-clause-first c =
    rw (← c.self.view_is)
    (node_first c.self.inside.nodes c.self.inside.lowered c.in_ok-first.first c.in_ok-first.ensures.first)
