use Rattle.std.proofs.Common.{◌∙◌, ◌<◌, length}
use Rattle.fb_obstacles.specs.InternalWatch.{node_bounds}
use Rattle.fb_obstacles.proofs.NodeBounds.{node_in, number_at}
use Rattle.fb_obstacles.proofs.watching.Watch.node_at.Goals as goal

pub number_at-requires : goal.number_at-requires
number_at-requires c =
    let less : c.args.place < length (node_bounds c.self.inside.nodes c.self.inside.lowered) = rw (← c.self.view_is) at c.requires in
    node_in c.self.inside.nodes c.self.inside.lowered c.args.place less

pub returns : goal.returns
returns c =
    let less : c.args.place < length (node_bounds c.self.inside.nodes c.self.inside.lowered) = rw (← c.self.view_is) at c.requires in
    rw (← c.self.view_is)
    (c.number_at.ensures
    ∙ number_at c.self.inside.nodes c.self.inside.lowered c.args.place
    (node_in c.self.inside.nodes c.self.inside.lowered c.args.place less))
