use Rattle.std.proofs.Common.{length, ap, arith}
use Rattle.fb_graph.proofs.Floods.{length-order}
use Rattle.fb_graph.proofs.flood.Flood.len.Goals as goal

pub returns-clause-limit : goal.returns-clause-limit
returns-clause-limit c =
    omega (
      arith,
      c.self.inside.order.ok.0,
      ap (λ f. length f.labels) c.self.view_is,
      length-order c.self.inside.labels.items c.self.inside.flags.items c.self.inside.order.items c.self.invariant,
    )
