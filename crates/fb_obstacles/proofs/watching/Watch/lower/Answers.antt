use Rattle.std.proofs.Common.{◌<◌, take}
use Rattle.std.proofs.lemmas.List.Elements.{All-take}
use Rattle.indexmap.specs.IndexMap.{keys, values}
use Rattle.fb_obstacles.proofs.NodeBounds.{nodes_lowered}
use Rattle.fb_obstacles.proofs.RaisedBounds.{lowered_twice}
use Rattle.fb_obstacles.proofs.watching.Watch.lower.Goals as goal

pub returns : goal.returns
returns c =
    rw (← c.self.view_is)
    (λ j. record {
      edge_count = c.self.inside.edge_count;
      edges = take c.self.inside.live (keys c.self.inside.known);
      bounds = lowered_twice (take c.self.inside.live (values c.self.inside.known)) c.self.inside.lowered c.args.length
          c.saturating_add-self-inside.result 18446744073709551616
          (All-take (λ b. b < 18446744073709551616) c.self.inside.live (values c.self.inside.known) c.self.invariant.0.small)
          c.saturating_add-self-inside.ensures j;
      queued = c.self.inside.queued;
      nodes = nodes_lowered c.self.inside.nodes c.self.inside.lowered c.args.length c.saturating_add-self-inside.result
          18446744073709551616 c.keeps.ensures c.saturating_add-self-inside.ensures j;
    })
